use Rattle.hp_cli.proofs.Determined as determined
use Rattle.hp_cli.proofs.laws.one_answer.Goals as goal

pub returns-clause-one : goal.returns-clause-one
returns-clause-one c = determined.one_answer

pub returns-clause-only : goal.returns-clause-only
returns-clause-only c = determined.only_answer
