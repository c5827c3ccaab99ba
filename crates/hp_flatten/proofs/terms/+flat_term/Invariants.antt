use Rattle.std.proofs.Common.{◌≡◌, map, take}
use Rattle.hp_flatten.specs.Flattening.{flat_term}
use Rattle.hp_flatten.proofs.terms.+flat_term.Given as goal

abbrev pub invariant-flat_terms-loop-term : goal.invariant-flat_terms-loop-term
invariant-flat_terms-loop-term l = l.flats ≡ map (flat_term l.application l.vars) (take l.term-index l.terms)
