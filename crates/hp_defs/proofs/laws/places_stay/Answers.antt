use Rattle.hp_defs.proofs.Growing as growing
use Rattle.hp_defs.proofs.laws.places_stay.Goals as goal

pub returns : goal.returns
returns c = growing.places_stay
