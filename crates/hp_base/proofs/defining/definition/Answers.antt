use Rattle.hp_base.proofs.Making.{begins_same}
use Rattle.hp_base.proofs.defining.definition.Goals as goal

pub returns-in_err-name-clause-kept : goal.returns-in_err-name-clause-kept
returns-in_err-name-clause-kept c = begins_same _

pub returns-in-Some-clause-kept : goal.returns-in-Some-clause-kept
returns-in-Some-clause-kept c = begins_same _
