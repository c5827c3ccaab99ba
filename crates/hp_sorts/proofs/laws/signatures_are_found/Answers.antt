use Rattle.hp_sorts.proofs.Found as found
use Rattle.hp_sorts.proofs.laws.signatures_are_found.Goals as goal

pub returns : goal.returns
returns c = found.signatures_are_found
