use Rattle.hp_base.proofs.ArgsMade.{arguments_keep_truth}
use Rattle.hp_base.proofs.laws.arguments_keep_truth.Goals as goal

pub returns : goal.returns
returns c = arguments_keep_truth
