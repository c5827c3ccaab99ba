use Rattle.hp_local.proofs.Applied as applied
use Rattle.hp_local.proofs.laws.values_are_local.Goals as goal

pub returns : goal.returns
returns c = applied.values_are_local
