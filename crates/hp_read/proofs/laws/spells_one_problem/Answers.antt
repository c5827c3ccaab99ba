use Rattle.hp_read.proofs.BytesLaws.{one_problem}
use Rattle.hp_read.proofs.laws.spells_one_problem.Goals as goal

pub returns : goal.returns
returns c = λ bytes p q s r. one_problem bytes p q s r
