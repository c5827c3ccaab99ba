use Rattle.hp_math.proofs.Laws as laws
use Rattle.hp_math.proofs.common_denominators.Goals as goal

pub returns : goal.returns
returns c = laws.have_common_denominators
