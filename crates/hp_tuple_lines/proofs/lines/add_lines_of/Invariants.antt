use Rattle.std.proofs.Common.{length}
use Rattle.hp_tuple_lines.proofs.Stepping.{IsStepping, left}
use Rattle.hp_tuple_lines.proofs.lines.add_lines_of.Given as goal

abbrev pub invariant-loop-more : goal.invariant-loop-more
invariant-loop-more l = IsStepping l.clause l.over l.more l.places.items l.initial.g l.g

abbrev pub decreases-loop-more : goal.decreases-loop-more
decreases-loop-more l = length (left l.more (length l.over) l.places.items)
