use Rattle.hp_base.proofs.ArgsMade.{arguments_are_small}
use Rattle.hp_base.proofs.laws.arguments_are_small.Goals as goal

pub returns : goal.returns
returns c = arguments_are_small
