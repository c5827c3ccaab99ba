use Rattle.hp_math.proofs.Laws as laws
use Rattle.hp_math.proofs.dense_order.Goals as goal

pub returns : goal.returns
returns c = laws.is_dense
