use Rattle.hp_index.proofs.Bounds.{offsets_are_within_weights}
use Rattle.hp_index.proofs.laws.offsets_are_within_weights.Goals as goal

pub returns : goal.returns
returns c = offsets_are_within_weights
