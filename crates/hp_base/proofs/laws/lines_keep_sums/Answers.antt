use Rattle.hp_base.proofs.CongruentLine.{lines_keep_sums}
use Rattle.hp_base.proofs.laws.lines_keep_sums.Goals as goal

pub returns : goal.returns
returns c = lines_keep_sums
