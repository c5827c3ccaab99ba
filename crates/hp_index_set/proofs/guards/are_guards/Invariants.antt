use Rattle.std.proofs.Common.{◌≡◌, drop}
use Rattle.std.specs.List.{list_all}
use Rattle.hp_index_set.specs.Rules.{is_guard}
use Rattle.hp_index_set.proofs.guards.are_guards.Given as goal

abbrev pub invariant-loop-atom : goal.invariant-loop-atom
invariant-loop-atom l = list_all (is_guard l.names l.clause) l.atoms ≡ list_all (is_guard l.names l.clause) (drop l.atom-index l.atoms)
