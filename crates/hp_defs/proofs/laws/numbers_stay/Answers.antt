use Rattle.hp_defs.proofs.Growing as growing
use Rattle.hp_defs.proofs.laws.numbers_stay.Goals as goal

pub returns : goal.returns
returns c = growing.numbers_stay
