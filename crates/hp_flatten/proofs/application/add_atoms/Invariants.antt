use Rattle.std.proofs.Common.{◌≡◌, ◌++◌, drop}
use Rattle.hp_flatten.specs.Applications.{atoms_applications}
use Rattle.hp_flatten.proofs.application.add_atoms.Given as goal

abbrev pub invariant-loop-atom : goal.invariant-loop-atom
invariant-loop-atom l = l.fn.found ++ atoms_applications l.atoms ≡ l.found ++ atoms_applications (drop l.atom-index l.atoms)
