use Rattle.std.proofs.Common.{◌≡◌, map, take}
use Rattle.hp_local.specs.Substitution.{substitute_atom}
use Rattle.hp_instance.specs.Replacing.{replaced_word}
use Rattle.hp_instance.proofs.replacing.replaced_atoms.Given as goal

abbrev pub invariant-loop-atom : goal.invariant-loop-atom
invariant-loop-atom l = l.made ≡ map (substitute_atom (replaced_word l.vars l.terms)) (take l.atom-index l.atoms)
