use Rattle.hp_local.proofs.Levels as levels
use Rattle.hp_local.proofs.laws.levels_complete.Goals as goal

pub returns : goal.returns
returns c = levels.levels_complete
