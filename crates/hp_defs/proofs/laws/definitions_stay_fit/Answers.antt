use Rattle.hp_defs.proofs.Fitting as fitting
use Rattle.hp_defs.proofs.laws.definitions_stay_fit.Goals as goal

pub returns : goal.returns
returns c = fitting.definitions_stay_fit
