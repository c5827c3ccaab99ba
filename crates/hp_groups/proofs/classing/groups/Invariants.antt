use Rattle.hp_groups.proofs.Grouping.{AreGroupsTo}
use Rattle.hp_groups.proofs.classing.groups.Given as goal

abbrev pub invariant-loop-func : goal.invariant-loop-func
invariant-loop-func l = record { so_far : AreGroupsTo l.names (record { flats = l.clauses; ruled = l.ruled }) l.order l.func-index l.levels l.groups }
