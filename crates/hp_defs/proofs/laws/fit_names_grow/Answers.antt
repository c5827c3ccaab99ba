use Rattle.hp_defs.proofs.Fitting as fitting
use Rattle.hp_defs.proofs.laws.fit_names_grow.Goals as goal

pub returns : goal.returns
returns c = fitting.fit_names_grow
