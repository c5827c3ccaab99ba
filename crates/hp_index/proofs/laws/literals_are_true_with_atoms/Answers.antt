use Rattle.hp_index.proofs.Truth.{literals_are_true_with_atoms}
use Rattle.hp_index.proofs.laws.literals_are_true_with_atoms.Goals as goal

pub returns : goal.returns
returns c = literals_are_true_with_atoms
