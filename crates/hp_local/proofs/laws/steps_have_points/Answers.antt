use Rattle.hp_local.proofs.Ordered as ordered
use Rattle.hp_local.proofs.laws.steps_have_points.Goals as goal

pub returns : goal.returns
returns c = record { points = ordered.steps_have_points; tables = ordered.tables_are_steps }
