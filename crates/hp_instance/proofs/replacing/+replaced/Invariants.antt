use Rattle.std.proofs.Common.{◌≡◌, map, take}
use Rattle.hp_local.specs.Substitution.{substitute}
use Rattle.hp_instance.specs.Replacing.{replaced_word}
use Rattle.hp_instance.proofs.replacing.+replaced.Given as goal

abbrev pub invariant-replaced_all-loop-term : goal.invariant-replaced_all-loop-term
invariant-replaced_all-loop-term l = l.made ≡ map (substitute (replaced_word l.vars l.terms)) (take l.term-index l.all)
