use Rattle.hp_instance.proofs.PlainTuples.{plain_tuples_fit}
use Rattle.hp_instance.proofs.laws.plain_tuples_fit.Goals as goal

pub returns : goal.returns
returns c = plain_tuples_fit
