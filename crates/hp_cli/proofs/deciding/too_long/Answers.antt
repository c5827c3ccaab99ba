use Rattle.std.proofs.Common.{refl}
use Rattle.hp_cli.specs.Answer as answers
use Rattle.hp_cli.proofs.deciding.too_long.Goals as goal

pub returns : goal.returns
returns c = (refl, λ bytes long. answers.too_long (record { size = long; written = c.in_ok-limit.ensures }))
