use Rattle.hp_index_set.proofs.SetsStay.{index_sets_stay}
use Rattle.hp_index_set.proofs.laws.index_sets_stay.Goals as goal

pub returns : goal.returns
returns c = index_sets_stay
