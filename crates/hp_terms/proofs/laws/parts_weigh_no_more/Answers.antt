use Rattle.hp_terms.proofs.Weights as weights
use Rattle.hp_terms.proofs.laws.parts_weigh_no_more.Goals as goal

pub returns : goal.returns
returns c = weights.parts_weigh_no_more
