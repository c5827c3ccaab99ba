use Rattle.hp_bounds.proofs.Plain as bounds
use Rattle.hp_bounds.proofs.laws.plain_names.Goals as goal

pub returns-clause-names : goal.returns-clause-names
returns-clause-names c = bounds.plain_names

pub returns-clause-arguments : goal.returns-clause-arguments
returns-clause-arguments c = bounds.plain_arguments

pub returns-clause-variables : goal.returns-clause-variables
returns-clause-variables c = bounds.plain_variables
