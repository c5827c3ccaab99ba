use Rattle.hp_instance.proofs.ComingBack.{arguments_come_back}
use Rattle.hp_instance.proofs.laws.arguments_come_back.Goals as goal

pub returns : goal.returns
returns c = arguments_come_back
