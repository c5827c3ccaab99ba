use Rattle.hp_diff.proofs.Copying.{IsCopying}
use Rattle.hp_diff.proofs.repair.copy_queued.Given as goal

abbrev pub invariant-loop-at : goal.invariant-loop-at
invariant-loop-at l = IsCopying l.nodes l.queue l.from l.to l.at l.tail
