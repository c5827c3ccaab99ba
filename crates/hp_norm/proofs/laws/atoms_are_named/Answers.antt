use Rattle.hp_norm.proofs.AtomsNamed.{atoms_are_named}
use Rattle.hp_norm.proofs.laws.atoms_are_named.Goals as goal

pub returns : goal.returns
returns c = atoms_are_named
