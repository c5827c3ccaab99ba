use Rattle.std.proofs.Common.{◌-◌}
use Rattle.hp_local.specs.Rows.{argument_words}
use Rattle.hp_tables.proofs.Guards.{IsGuardTo}
use Rattle.hp_tables.proofs.tables.point_guard.Given as goal

abbrev pub invariant-loop-at : goal.invariant-loop-at
invariant-loop-at l = IsGuardTo argument_words l.args l.at l.guard

abbrev pub decreases-loop-at : goal.decreases-loop-at
decreases-loop-at l = 4 - l.at
