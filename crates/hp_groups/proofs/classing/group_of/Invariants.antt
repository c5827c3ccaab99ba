use Rattle.hp_groups.proofs.Grouping.{IsGroupFrom}
use Rattle.hp_groups.proofs.classing.group_of.Given as goal

abbrev pub invariant-loop-i : goal.invariant-loop-i
invariant-loop-i l = record { group : IsGroupFrom l.names l.ruled l.clauses l.func l.i }
