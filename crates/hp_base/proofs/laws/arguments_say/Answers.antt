use Rattle.hp_base.proofs.ArgsMade.{arguments_say}
use Rattle.hp_base.proofs.laws.arguments_say.Goals as goal

pub returns : goal.returns
returns c = arguments_say
