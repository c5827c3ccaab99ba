use Rattle.hp_rows.proofs.Positive as positive
use Rattle.hp_rows.proofs.chain_is_positive.Goals as goal

pub returns : goal.returns
returns c = positive.chain_is_positive
