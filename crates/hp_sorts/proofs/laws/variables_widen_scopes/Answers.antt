use Rattle.hp_sorts.proofs.Found as found
use Rattle.hp_sorts.proofs.laws.variables_widen_scopes.Goals as goal

pub returns : goal.returns
returns c = found.variables_widen_scopes
