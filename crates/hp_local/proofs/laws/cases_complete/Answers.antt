use Rattle.hp_local.proofs.Cases as cases
use Rattle.hp_local.proofs.laws.cases_complete.Goals as goal

pub returns : goal.returns
returns c = cases.cases_complete
