use Rattle.hp_local.proofs.ClassSorts as classes
use Rattle.hp_local.proofs.Sorts as sorts
use Rattle.hp_local.proofs.laws.completions_are_sorted.Goals as goal

pub returns : goal.returns
returns c = record { numbers = sorts.numbers_are_sorted; rows = sorts.point_rows_are_sorted; free = sorts.free_tables_are_sorted; steps = sorts.step_tables_are_sorted; cases = classes.case_tables_are_sorted; fields = classes.field_tables_are_sorted }
