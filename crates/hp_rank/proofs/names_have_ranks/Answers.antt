use Rattle.hp_rank.proofs.Pointers.{has_rank}
use Rattle.hp_rank.proofs.names_have_ranks.Goals as goal

pub returns : goal.returns
returns c = has_rank
