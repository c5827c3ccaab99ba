use Rattle.hp_class.proofs.Facts.{own_facts_are_points}
use Rattle.hp_class.proofs.laws.own_facts_are_points.Goals as goal

pub returns : goal.returns
returns c = own_facts_are_points
