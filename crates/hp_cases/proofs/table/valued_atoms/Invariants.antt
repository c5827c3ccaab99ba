use Rattle.std.proofs.Common.{◌≡◌, map, take}
use Rattle.hp_local.specs.Substitution.{substitute_atom}
use Rattle.hp_cases.specs.Cases.{word_term}
use Rattle.hp_cases.proofs.table.valued_atoms.Given as goal

abbrev pub invariant-loop-atom : goal.invariant-loop-atom
invariant-loop-atom l = l.made ≡ map (substitute_atom (word_term l.names l.values)) (take l.atom-index l.atoms)
