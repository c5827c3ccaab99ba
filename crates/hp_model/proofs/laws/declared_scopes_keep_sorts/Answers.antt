use Rattle.hp_model.proofs.Sorted as sorted
use Rattle.hp_model.proofs.laws.declared_scopes_keep_sorts.Goals as goal

pub returns : goal.returns
returns c = sorted.declared_scopes_keep_sorts
