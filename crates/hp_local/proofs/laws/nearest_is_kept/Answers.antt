use Rattle.hp_local.proofs.Nearest as nearest
use Rattle.hp_local.proofs.laws.nearest_is_kept.Goals as goal

pub returns : goal.returns
returns c = record { order = nearest.nearest_keeps_order; numbers = nearest.nearest_keeps_numbers; steps = nearest.steps_are_nearest; guards = nearest.guards_are_kept; orders = nearest.orders_are_kept }
