use Rattle.hp_math.proofs.Combination as combination
use Rattle.hp_math.proofs.no_combination.Goals as goal

pub returns : goal.returns
returns c = combination.no_combination
