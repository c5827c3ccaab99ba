use Rattle.hp_rank.proofs.Truth as truth
use Rattle.hp_rank.proofs.ranks_keep_truth.Goals as goal

pub returns : goal.returns
returns c = truth.ranks_keep_truth
