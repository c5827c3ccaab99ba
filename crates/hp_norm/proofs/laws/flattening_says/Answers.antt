use Rattle.hp_norm.proofs.ProblemsFlat.{flattening_says}
use Rattle.hp_norm.proofs.laws.flattening_says.Goals as goal

pub returns : goal.returns
returns c = flattening_says
