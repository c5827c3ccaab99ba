use Rattle.std.proofs.Common.{inl, arith, ◌+◌, length, length-append, ap, ◌∷◌, []}
use Rattle.hp_lit.specs.declared.literal.IdxLit.{IdxLit}
use Rattle.hp_diff.specs.inner.RowEdges.{edges_of}
use Rattle.hp_diff.proofs.RowEdges.{ends_with, kept_state}
use Rattle.hp_diff.proofs.kept.Kept.pop.Goals as goal

pub drop_row-requires-clause-state : goal.drop_row-requires-clause-state
drop_row-requires-clause-state c = kept_state _ _ _ _ _ c.self.invariant.edges c.self.invariant.state c.in-Some.ensures

pub drop_row-requires-clause-last : goal.drop_row-requires-clause-last
drop_row-requires-clause-last c = record {
  lit = 1 + length c.pop.new.self;
  before = edges_of 1 c.pop.new.self;
  is = ends_with _ _ _ _ c.self.invariant.edges c.in-Some.ensures;
}

pub invariant_of-self : goal.invariant_of-self
invariant_of-self c = record {
  names = c.self.invariant.names;
  few = (let few = c.self.invariant.few in let n = ap (length {A = IdxLit}) c.in-Some.ensures in let m = length-append c.pop.new.self (c.in-Some.row ∷ []) in omega arith);
  edges = c.drop_row.ensures.edges (edges_of 1 c.pop.new.self) (1 + length c.pop.new.self) (ends_with _ _ _ _ c.self.invariant.edges c.in-Some.ensures);
  state = inl c.drop_row.ensures.state;
}
