use Rattle.std.proofs.Common.{rules}
use Rattle.hp_cli.specs.Answer as answers
use Rattle.hp_cli.proofs.deciding.misspelled.Goals as goal

pub returns-in_ok-spelling-in_default : goal.returns-in_ok-spelling-in_default
returns-in_ok-spelling-in_default c = answers.misspelled (search rules)
