use Rattle.hp_bounds.proofs.Shallow as bounds
use Rattle.hp_bounds.proofs.laws.shallow_terms.Goals as goal

pub returns : goal.returns
returns c = bounds.shallow_terms
