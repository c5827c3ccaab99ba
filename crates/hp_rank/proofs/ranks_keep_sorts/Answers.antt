use Rattle.hp_rank.specs.Ranks.{rank}
use Rattle.hp_rank.proofs.Pointers.{all_of_sorts, have_sorts}
use Rattle.hp_rank.proofs.ranks_keep_sorts.Goals as goal

pub returns : goal.returns
returns c = record { all = λ first sorts v. all_of_sorts (rank first sorts v) sorts v; have = have_sorts }
