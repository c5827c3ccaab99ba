use Rattle.hp_local.proofs.Terms as terms
use Rattle.hp_local.proofs.laws.numbers_are_terms.Goals as goal

pub returns : goal.returns
returns c = terms.numbers_are_terms
