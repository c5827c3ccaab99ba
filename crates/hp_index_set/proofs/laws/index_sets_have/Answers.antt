use Rattle.hp_index_set.proofs.Among.{applied_are_indexes, bounds_are_indexes, some_indexes}
use Rattle.hp_index_set.proofs.laws.index_sets_have.Goals as goal

pub returns-clause-applied : goal.returns-clause-applied
returns-clause-applied c = applied_are_indexes

pub returns-clause-bounds : goal.returns-clause-bounds
returns-clause-bounds c = bounds_are_indexes

pub returns-clause-some : goal.returns-clause-some
returns-clause-some c = some_indexes
