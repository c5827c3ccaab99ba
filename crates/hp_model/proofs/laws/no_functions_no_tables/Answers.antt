use Rattle.hp_model.proofs.Fits as fits
use Rattle.hp_model.proofs.laws.no_functions_no_tables.Goals as goal

pub returns : goal.returns
returns c = fits.no_functions_no_tables
