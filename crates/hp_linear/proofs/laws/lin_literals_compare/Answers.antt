use Rattle.hp_linear.proofs.Truth as truth
use Rattle.hp_linear.proofs.laws.lin_literals_compare.Goals as goal

pub returns : goal.returns
returns c = truth.lin_literals_compare
