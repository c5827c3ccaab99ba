use Rattle.std.proofs.Common.{◌≡◌, take}
use Rattle.hp_tree.proofs.problem.copy_atoms.Given as goal

abbrev pub invariant-loop-atom : goal.invariant-loop-atom
invariant-loop-atom l = l.all ≡ take l.atom-index l.atoms
