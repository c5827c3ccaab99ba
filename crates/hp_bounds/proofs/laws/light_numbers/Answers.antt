use Rattle.hp_bounds.proofs.Bounds as bounds
use Rattle.hp_bounds.proofs.laws.light_numbers.Goals as goal

pub returns : goal.returns
returns c = bounds.light_numbers
