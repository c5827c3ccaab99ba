use Rattle.hp_defs.proofs.Fitting as fitting
use Rattle.hp_defs.proofs.laws.bodies_stay_fit.Goals as goal

pub returns : goal.returns
returns c = fitting.bodies_stay_fit
