use Rattle.std.proofs.Common.{◌≡◌, ◌++◌, drop}
use Rattle.std.specs.List.{flat_map}
use Rattle.hp_waiting.specs.Waiting.{atom_functions}
use Rattle.hp_waiting.proofs.applications.add_atoms.Given as goal

abbrev pub invariant-loop-atom : goal.invariant-loop-atom
invariant-loop-atom l = l.fn.words ++ flat_map (atom_functions l.vars) l.atoms ≡ l.words ++ flat_map (atom_functions l.vars) (drop l.atom-index l.atoms)
