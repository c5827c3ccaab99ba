use Rattle.hp_sorts.proofs.Found as found
use Rattle.hp_sorts.proofs.laws.nothing_else_is_found.Goals as goal

pub returns : goal.returns
returns c = found.nothing_else_is_found
