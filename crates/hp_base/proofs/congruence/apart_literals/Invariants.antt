use Rattle.std.proofs.Common.{length, ◌-◌}
use Rattle.hp_base.proofs.Apart.{IsApart}
use Rattle.hp_base.proofs.congruence.apart_literals.Given as goal

abbrev pub invariant-loop-at : goal.invariant-loop-at
invariant-loop-at l = IsApart l.sorts l.left l.right l.at l.lits

abbrev pub decreases-loop-at : goal.decreases-loop-at
decreases-loop-at l = length l.sorts - l.at
