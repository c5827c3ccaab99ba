use Rattle.hp_local.proofs.Monotone as monotone
use Rattle.hp_local.proofs.laws.monotone_completes.Goals as goal

pub returns : goal.returns
returns c = record { says = monotone.shapes_say; completes = monotone.monotone_completes }
