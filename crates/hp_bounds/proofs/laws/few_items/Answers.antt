use Rattle.hp_bounds.proofs.Bounds as bounds
use Rattle.hp_bounds.proofs.laws.few_items.Goals as goal

pub returns : goal.returns
returns c = bounds.few_items
