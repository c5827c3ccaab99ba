use Rattle.hp_math.proofs.Laws as laws
use Rattle.hp_math.proofs.ordered_field.Goals as goal

pub returns : goal.returns
returns c = laws.is_ordered_field
