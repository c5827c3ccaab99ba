use Rattle.hp_local.proofs.Arrays as arrays
use Rattle.hp_local.proofs.laws.arrays_complete.Goals as goal

pub returns : goal.returns
returns c = arrays.arrays_complete
