use Rattle.hp_local.proofs.Lower as lower
use Rattle.hp_local.proofs.laws.completions_apply_lower.Goals as goal

pub returns : goal.returns
returns c = record { free = lower.free_tables_apply_none; steps = lower.step_tables_apply_none; cases = lower.case_tables_apply_theirs; fields = lower.field_tables_apply_none }
