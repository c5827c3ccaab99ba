use Rattle.hp_base.proofs.Literals.{literals_fit}
use Rattle.hp_base.proofs.laws.literals_fit.Goals as goal

pub returns : goal.returns
returns c = literals_fit
