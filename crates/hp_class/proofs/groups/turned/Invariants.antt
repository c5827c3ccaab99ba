use Rattle.std.proofs.Common.{length}
use Rattle.hp_class.proofs.Tables.{AreTurned}
use Rattle.hp_class.proofs.groups.turned.Given as goal

abbrev pub invariant-loop-table : goal.invariant-loop-table
invariant-loop-table l = AreTurned l.initial.tables l.tables l.other

abbrev pub decreases-loop-table : goal.decreases-loop-table
decreases-loop-table l = length l.tables
