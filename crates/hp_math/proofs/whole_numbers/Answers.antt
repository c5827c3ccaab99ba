use Rattle.hp_math.proofs.Laws as laws
use Rattle.hp_math.proofs.whole_numbers.Goals as goal

pub returns : goal.returns
returns c = laws.has_whole_numbers
