use Rattle.std.proofs.Common.{◌≡◌, drop}
use Rattle.std.specs.List.{list_all}
use Rattle.hp_rules.specs.Rules.{is_case_atom}
use Rattle.hp_rules.proofs.reading.are_case_atoms.Given as goal

abbrev pub invariant-loop-atom : goal.invariant-loop-atom
invariant-loop-atom l = list_all (is_case_atom l.names l.clause) l.atoms ≡ list_all (is_case_atom l.names l.clause) (drop l.atom-index l.atoms)
