use Rattle.hp_flatten.proofs.IsFlat.{flattened_is_flat}
use Rattle.hp_flatten.proofs.One.{flattened_has_one}
use Rattle.hp_ruled.proofs.Arrays as arrays
use Rattle.hp_ruled.proofs.Branches as branches
use Rattle.hp_ruled.proofs.ByCases as cases
use Rattle.hp_ruled.proofs.Owning as owning
use Rattle.hp_ruled.proofs.Sources as sources
use Rattle.hp_ruled.proofs.laws.ruled_clauses_have_classes.Goals as goal

pub returns-clause-fit : goal.returns-clause-fit
returns-clause-fit c = branches.branches_fit flattened_is_flat flattened_has_one

pub returns-clause-cases : goal.returns-clause-cases
returns-clause-cases c = cases.functions_by_cases flattened_is_flat flattened_has_one

pub returns-clause-read : goal.returns-clause-read
returns-clause-read c = sources.clauses_read

pub returns-clause-from : goal.returns-clause-from
returns-clause-from c = sources.cases_from

pub returns-clause-own : goal.returns-clause-own
returns-clause-own c = owning.cases_own

pub returns-clause-once : goal.returns-clause-once
returns-clause-once c = owning.monotone_once

pub returns-clause-arrays : goal.returns-clause-arrays
returns-clause-arrays c = arrays.arrays_are_clauses

pub returns-clause-known : goal.returns-clause-known
returns-clause-known c = arrays.arrays_are_known

pub returns-clause-groups : goal.returns-clause-groups
returns-clause-groups c = arrays.arrays_are_groups

pub returns-clause-levels : goal.returns-clause-levels
returns-clause-levels c = arrays.clauses_have_arrays
