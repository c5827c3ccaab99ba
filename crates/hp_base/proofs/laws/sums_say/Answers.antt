use Rattle.hp_base.proofs.SumsHold.{sums_say}
use Rattle.hp_base.proofs.laws.sums_say.Goals as goal

pub returns : goal.returns
returns c = sums_say
