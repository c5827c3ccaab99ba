use Rattle.hp_model.proofs.Sorted as sorted
use Rattle.hp_model.proofs.laws.functions_have_sorts.Goals as goal

pub returns : goal.returns
returns c = sorted.functions_have_sorts
