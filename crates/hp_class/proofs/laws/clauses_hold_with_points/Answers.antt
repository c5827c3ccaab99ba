use Rattle.hp_class.proofs.Through.{clauses_hold_with_points}
use Rattle.hp_class.proofs.laws.clauses_hold_with_points.Goals as goal

pub returns : goal.returns
returns c = clauses_hold_with_points
