use Rattle.hp_rank.proofs.Pointers.{are_ranks}
use Rattle.hp_rank.proofs.ranks_are_in_order.Goals as goal

pub returns : goal.returns
returns c = are_ranks
