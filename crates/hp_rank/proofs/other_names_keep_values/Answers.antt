use Rattle.hp_rank.specs.Ranks.{rank}
use Rattle.hp_rank.proofs.Pointers.{other_name}
use Rattle.hp_rank.proofs.other_names_keep_values.Goals as goal

pub returns : goal.returns
returns c = λ first sorts v. other_name (rank first sorts v) sorts v
