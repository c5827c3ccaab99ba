use Rattle.hp_base.proofs.Literals.{literals_say}
use Rattle.hp_base.proofs.laws.literals_say.Goals as goal

pub returns : goal.returns
returns c = literals_say
