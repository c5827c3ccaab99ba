use Rattle.hp_base.proofs.ArgsMade.{arguments_keep_sums}
use Rattle.hp_base.proofs.laws.arguments_keep_sums.Goals as goal

pub returns : goal.returns
returns c = arguments_keep_sums
