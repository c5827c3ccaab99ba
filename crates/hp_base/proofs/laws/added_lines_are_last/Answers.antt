use Rattle.hp_base.proofs.CongruentLine.{added_lines_are_last}
use Rattle.hp_base.proofs.laws.added_lines_are_last.Goals as goal

pub returns : goal.returns
returns c = added_lines_are_last
