use Rattle.hp_local.proofs.Structures as structures
use Rattle.hp_local.proofs.laws.functions_follow_tables.Goals as goal

pub returns-clause-lower : goal.returns-clause-lower
returns-clause-lower c = structures.well_formed_tables_are_lower

pub returns-clause-follow : goal.returns-clause-follow
returns-clause-follow c = structures.functions_follow_tables
