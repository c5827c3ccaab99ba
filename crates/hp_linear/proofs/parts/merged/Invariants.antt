use Rattle.std.proofs.Common.{length, ◌-◌, ◌+◌}
use Rattle.hp_linear.proofs.Merging.{IsMerged}
use Rattle.hp_linear.proofs.parts.merged.Given as goal

abbrev pub invariant-loop-i : goal.invariant-loop-i
invariant-loop-i l = IsMerged l.left l.right l.all l.i l.j

abbrev pub decreases-loop-i : goal.decreases-loop-i
decreases-loop-i l = (length l.left - l.i) + (length l.right - l.j)
