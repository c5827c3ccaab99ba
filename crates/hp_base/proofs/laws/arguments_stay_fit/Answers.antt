use Rattle.hp_base.proofs.ArgsMade.{arguments_stay_fit}
use Rattle.hp_base.proofs.laws.arguments_stay_fit.Goals as goal

pub returns : goal.returns
returns c = arguments_stay_fit
