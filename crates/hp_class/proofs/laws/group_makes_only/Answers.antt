use Rattle.hp_class.proofs.OnlyLines.{group_makes_only}
use Rattle.hp_class.proofs.laws.group_makes_only.Goals as goal

pub returns : goal.returns
returns c = group_makes_only
