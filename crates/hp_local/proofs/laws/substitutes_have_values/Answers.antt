use Rattle.hp_local.proofs.Folds as folds
use Rattle.hp_local.proofs.laws.substitutes_have_values.Goals as goal

pub returns : goal.returns
returns c = record { at_values = folds.substitutes_have_values; values = folds.substitutes_keep_values; guards = folds.substitutes_keep_guards; applied = folds.substitutes_apply_the_same }
