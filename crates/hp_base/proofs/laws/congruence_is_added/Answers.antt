use Rattle.hp_base.proofs.CongruentLine.{congruence_is_added}
use Rattle.hp_base.proofs.laws.congruence_is_added.Goals as goal

pub returns : goal.returns
returns c = congruence_is_added
