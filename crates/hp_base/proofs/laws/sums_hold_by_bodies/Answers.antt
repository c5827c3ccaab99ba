use Rattle.hp_base.proofs.SumsHold.{sums_hold_by_bodies}
use Rattle.hp_base.proofs.laws.sums_hold_by_bodies.Goals as goal

pub returns : goal.returns
returns c = sums_hold_by_bodies
