use Rattle.hp_local.proofs.Points as points
use Rattle.hp_local.proofs.laws.points_are_kept.Goals as goal

pub returns : goal.returns
returns c = points.points_are_kept
