use Rattle.hp_index.proofs.Fits.{form_literals_are_fit}
use Rattle.hp_index.proofs.laws.form_literals_are_fit.Goals as goal

pub returns : goal.returns
returns c = form_literals_are_fit
