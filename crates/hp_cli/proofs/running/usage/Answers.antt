use Rattle.std.proofs.Common.{refl}
use Rattle.hp_cli.specs.Answer as answers
use Rattle.hp_cli.proofs.running.usage.Goals as goal

pub returns-clause-content : goal.returns-clause-content
returns-clause-content g c = λ words bytes none. c.finish.ensures.content words bytes (answers.usage none refl)
