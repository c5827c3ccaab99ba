use Rattle.hp_index_set.proofs.Along.{passes_cover}
use Rattle.hp_index_set.proofs.laws.passes_cover.Goals as goal

pub returns : goal.returns
returns c = passes_cover
