use Rattle.hp_model.proofs.Universal as universal
use Rattle.hp_model.proofs.laws.plain_clauses_hold.Goals as goal

pub returns : goal.returns
returns c = universal.plain_clauses_hold
