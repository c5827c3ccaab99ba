use Rattle.hp_index.proofs.Truth.{ptr_literals_are_true_with_atoms}
use Rattle.hp_index.proofs.laws.ptr_literals_are_true_with_atoms.Goals as goal

pub returns : goal.returns
returns c = ptr_literals_are_true_with_atoms
