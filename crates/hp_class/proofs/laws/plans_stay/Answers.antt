use Rattle.hp_class.proofs.Stays.{flat_stays, tuple_stays}
use Rattle.hp_class.proofs.laws.plans_stay.Goals as goal

pub returns-clause-clauses : goal.returns-clause-clauses
returns-clause-clauses c = flat_stays

pub returns-clause-tuples : goal.returns-clause-tuples
returns-clause-tuples c = tuple_stays
