use Rattle.std.proofs.Common.{◌≡◌, map, take}
use Rattle.hp_flatten.specs.Flattening.{flat_atom}
use Rattle.hp_flatten.proofs.terms.flat_atoms.Given as goal

abbrev pub invariant-loop-atom : goal.invariant-loop-atom
invariant-loop-atom l = l.flats ≡ map (flat_atom l.application l.vars) (take l.atom-index l.atoms)
