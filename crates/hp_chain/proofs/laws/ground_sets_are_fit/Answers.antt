use Rattle.hp_chain.proofs.FitGround.{ground_sets_are_fit}
use Rattle.hp_chain.proofs.laws.ground_sets_are_fit.Goals as goal

pub returns : goal.returns
returns c = ground_sets_are_fit
