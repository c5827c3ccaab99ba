use Rattle.hp_base.proofs.ArgsMade.{arguments_keep_fit}
use Rattle.hp_base.proofs.laws.arguments_keep_fit.Goals as goal

pub returns : goal.returns
returns c = arguments_keep_fit
