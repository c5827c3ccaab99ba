use Rattle.hp_defs.proofs.Growing as growing
use Rattle.hp_defs.proofs.laws.added_is_last.Goals as goal

pub returns : goal.returns
returns c = growing.added_is_last
