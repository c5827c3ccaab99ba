use Rattle.hp_class.proofs.Group.{group_says}
use Rattle.hp_class.proofs.laws.group_says.Goals as goal

pub returns : goal.returns
returns c = group_says
