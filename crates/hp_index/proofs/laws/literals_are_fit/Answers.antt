use Rattle.hp_index.proofs.Fits.{literals_are_fit}
use Rattle.hp_index.proofs.laws.literals_are_fit.Goals as goal

pub returns : goal.returns
returns c = literals_are_fit
