use Rattle.hp_local.proofs.Fuel as fuel
use Rattle.hp_local.proofs.laws.fuel_is_enough.Goals as goal

pub returns : goal.returns
returns c = fuel.fuel_is_enough
