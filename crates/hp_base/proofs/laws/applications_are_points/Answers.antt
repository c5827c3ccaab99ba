use Rattle.hp_base.proofs.CongruentPoints.{applications_are_points}
use Rattle.hp_base.proofs.laws.applications_are_points.Goals as goal

pub returns : goal.returns
returns c = applications_are_points
