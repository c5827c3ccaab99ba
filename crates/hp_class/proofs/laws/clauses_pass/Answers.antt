use Rattle.hp_class.proofs.Passing.{clauses_pass}
use Rattle.hp_class.proofs.laws.clauses_pass.Goals as goal

pub returns : goal.returns
returns c = clauses_pass
