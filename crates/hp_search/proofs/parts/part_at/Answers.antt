use Rattle.std.proofs.Common.{◌∙◌}
use Rattle.hp_search.proofs.Picking.{part_left, part_taken}
use Rattle.hp_search.proofs.parts.part_at.Goals as goal
use Rattle.hp_search.proofs.parts.part_at.Goals.{then-is_next+in_ok-push, else-is_next}

pub loop-at-preserved : goal.loop-at-preserved
loop-at-preserved c = elim c.if-is_next.branch [
  | then-is_next+in_ok-push w ↦ part_taken c.loop-at.part c.if-is_next.part c.args.path.now c.loop-at.at _ c.loop-at-test.true (w.part-is ∙ w.in_ok-push.ensures.ok) c.loop-at.invariant
  | else-is_next w ↦ part_left c.loop-at.part c.if-is_next.part c.args.path.now c.loop-at.at (record { line = 0; lit = 0 }) c.loop-at-test.true w.part-is c.loop-at.invariant
]
