use Rattle.hp_local.proofs.Free as free
use Rattle.hp_local.proofs.laws.free_completes.Goals as goal

pub returns : goal.returns
returns c = free.free_completes
