use Rattle.hp_null_guards.proofs.Guarded.{guarded_sides_are_good, null_guards_are_found}
use Rattle.hp_null_guards.proofs.laws.guarded_sides_are_good.Goals as goal

pub returns-clause-found : goal.returns-clause-found
returns-clause-found c = null_guards_are_found

pub returns-clause-good : goal.returns-clause-good
returns-clause-good c = guarded_sides_are_good
