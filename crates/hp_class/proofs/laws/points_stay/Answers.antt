use Rattle.hp_class.proofs.PointsStay.{points_stay}
use Rattle.hp_class.proofs.laws.points_stay.Goals as goal

pub returns : goal.returns
returns c = points_stay
