use Rattle.hp_math.proofs.Laws as laws
use Rattle.hp_math.proofs.tests_decide.Goals as goal

pub returns : goal.returns
returns c = laws.tests_decide
