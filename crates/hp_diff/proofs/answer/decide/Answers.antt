use Rattle.hp_diff.proofs.Building.{in_any_order}
use Rattle.hp_lit.specs.declared.literal.IdxLit.{IdxLit}
use Rattle.hp_nodes.proofs.Mentions.{named_left, named_right}
use Rattle.hp_diff.proofs.answer.decide.Goals as goal

pub edges_of-requires-clause-left : goal.edges_of-requires-clause-left
edges_of-requires-clause-left c = rw c.deref.ensures.value (named_left IdxLit (λ row. row.left) (λ row. row.right) _ _ c.in_ok-names.ensures.all)

pub edges_of-requires-clause-right : goal.edges_of-requires-clause-right
edges_of-requires-clause-right c = rw c.deref.ensures.value (named_right IdxLit (λ row. row.left) (λ row. row.right) _ _ c.in_ok-names.ensures.all)

pub answer_of-requires-clause-edges : goal.answer_of-requires-clause-edges
answer_of-requires-clause-edges c =
    let edges = rw c.deref.ensures.value at c.in_ok-edges_of.ensures in
    rw (c.deref-2.ensures.value, c.deref-3.ensures.value) (in_any_order _ _ _ _ c.in_ok-edges.ensures edges)
