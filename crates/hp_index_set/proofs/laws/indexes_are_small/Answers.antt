use Rattle.hp_index_set.proofs.Small.{indexes_are_small}
use Rattle.hp_index_set.proofs.laws.indexes_are_small.Goals as goal

pub returns : goal.returns
returns c = indexes_are_small
