use Rattle.hp_diff.proofs.Copying.{AreCopied}
use Rattle.hp_diff.proofs.repair.copy_all.Given as goal

abbrev pub invariant-loop-node : goal.invariant-loop-node
invariant-loop-node l = AreCopied l.nodes l.from l.to l.node
