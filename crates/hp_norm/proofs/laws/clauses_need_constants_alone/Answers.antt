use Rattle.hp_norm.proofs.ConstantsAlone.{clauses_need_constants_alone}
use Rattle.hp_norm.proofs.laws.clauses_need_constants_alone.Goals as goal

pub returns : goal.returns
returns c = clauses_need_constants_alone
