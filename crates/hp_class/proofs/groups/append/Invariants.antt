use Rattle.std.proofs.Common.{◌++◌, length}
use Rattle.hp_class.proofs.Tables.{AreMoved}
use Rattle.hp_class.proofs.groups.append.Given as goal

abbrev pub invariant-loop-table : goal.invariant-loop-table
invariant-loop-table l = AreMoved (l.initial.tables ++ l.fn.more) l.tables l.last_first

abbrev pub decreases-loop-table : goal.decreases-loop-table
decreases-loop-table l = length l.last_first
