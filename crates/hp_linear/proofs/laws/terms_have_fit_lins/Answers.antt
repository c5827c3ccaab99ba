use Rattle.hp_linear.proofs.Fits as fits
use Rattle.hp_linear.proofs.laws.terms_have_fit_lins.Goals as goal

pub returns : goal.returns
returns c = fits.terms_have_fit_lins
