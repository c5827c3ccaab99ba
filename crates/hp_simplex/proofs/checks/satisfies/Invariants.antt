use Rattle.std.proofs.Common.{take}
use Rattle.hp_simplex.specs.Checks.{MeetAll}
use Rattle.hp_simplex.proofs.checks.satisfies.Given as goal

abbrev pub invariant-loop-at : goal.invariant-loop-at
invariant-loop-at l = MeetAll l.values (take l.at l.lits)
