use Rattle.hp_lit.specs.declared.literal.PtrLit.{PtrLit}
use Rattle.hp_nodes.proofs.Mentions.{named_left, named_right}
use Rattle.hp_ptreq.proofs.answer.decide.Goals as goal

pub classes_of-requires-clause-left : goal.classes_of-requires-clause-left
classes_of-requires-clause-left c = rw c.deref.ensures.value (named_left PtrLit (λ row. row.left) (λ row. row.right) _ _ c.in_ok-names.ensures.all)

pub classes_of-requires-clause-right : goal.classes_of-requires-clause-right
classes_of-requires-clause-right c = rw c.deref.ensures.value (named_right PtrLit (λ row. row.left) (λ row. row.right) _ _ c.in_ok-names.ensures.all)
