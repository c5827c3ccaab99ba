use Rattle.hp_index.proofs.Fits.{ptr_literals_are_fit}
use Rattle.hp_index.proofs.laws.ptr_literals_are_fit.Goals as goal

pub returns : goal.returns
returns c = ptr_literals_are_fit
