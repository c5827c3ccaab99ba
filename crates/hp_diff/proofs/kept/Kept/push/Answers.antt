use Rattle.std.proofs.Common.{inl, arith, ◌∙◌, ap, length, ◌+◌, ◌∷◌, [], length-append}
use Rattle.hp_lit.specs.declared.literal.IdxLit.{IdxLit}
use Rattle.hp_diff.proofs.RowEdges.{popped, pushed_edges, row_fits, valid_cycle}
use Rattle.hp_diff.proofs.kept.Kept.push.Goals as goal

pub add_row-requires-clause-fit : goal.add_row-requires-clause-fit
add_row-requires-clause-fit c = row_fits _ _ _ c.self.invariant.names (rw (← c.self.view_is) at c.requires.row)

pub invariant_of-self-in-Ok-None : goal.invariant_of-self-in-Ok-None
invariant_of-self-in-Ok-None c =
    let d = rw c.in-Ok-None.field-0-is at c.in-Ok-None.ensures.ok in
    record {
      names = c.self.invariant.names;
      few = (let few = rw (← c.self.view_is) at c.requires.few in let n = ap (length {A = IdxLit}) c.in_ok-push.ensures.ok in let m = length-append c.self.inside.rows (c.args.row.now ∷ []) in omega arith);
      edges = pushed_edges _ c.self.inside.rows c.args.row.now _ _ _ d.1 (c.in_ok-make_room.ensures.edges ∙ c.self.invariant.edges) (ap (λ n. n + 1) c.len.ensures) c.in_ok-push.ensures.ok;
      state = inl d.0;
    }

pub returns-in-Ok-Some-clause-pushed : goal.returns-in-Ok-Some-clause-pushed
returns-in-Ok-Some-clause-pushed c =
    let d = rw c.in-Ok-Some.field-0-is at c.in-Ok-Some.ensures.ok in
    rw (← c.self.view_is) (
      popped _ _ _ _ _ c.pop.ensures c.in_ok-push.ensures.ok,
      valid_cycle c.self.inside.rows c.args.row.now _ _ c.in-Ok-Some.steps (c.in_ok-make_room.ensures.edges ∙ c.self.invariant.edges) (ap (λ n. n + 1) c.len.ensures) d.2,
    )
