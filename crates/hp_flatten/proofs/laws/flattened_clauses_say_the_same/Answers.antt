use Rattle.hp_flatten.proofs.Holds.{flattened_holds}
use Rattle.hp_flatten.proofs.IsFlat.{flattened_is_flat}
use Rattle.hp_flatten.proofs.One.{flattened_has_one}
use Rattle.hp_flatten.proofs.laws.flattened_clauses_say_the_same.Goals as goal

pub returns-clause-holds : goal.returns-clause-holds
returns-clause-holds c = flattened_holds

pub returns-clause-flat : goal.returns-clause-flat
returns-clause-flat c = flattened_is_flat

pub returns-clause-one : goal.returns-clause-one
returns-clause-one c = flattened_has_one
