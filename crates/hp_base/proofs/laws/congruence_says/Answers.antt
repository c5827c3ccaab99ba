use Rattle.hp_base.proofs.Congruent.{congruence_says}
use Rattle.hp_base.proofs.laws.congruence_says.Goals as goal

pub returns : goal.returns
returns c = congruence_says
