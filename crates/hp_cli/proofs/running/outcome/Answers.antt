use Rattle.std.proofs.KnownBytes.{Keeps-refl}
use Rattle.hp_cli.proofs.Tells.{told_any}
use Rattle.hp_cli.proofs.Transfers.{no_more}
use Rattle.hp_cli.proofs.running.outcome.Goals as goal

pub returns-in-None-clause-content : goal.returns-in-None-clause-content
returns-in-None-clause-content g c = told_any _ _ _ _ (λ bytes. c.usage.ensures.content _ bytes c.in-None.ensures)

pub returns-in-None-clause-few : goal.returns-in-None-clause-few
returns-in-None-clause-few g c = no_more _ _ (Keeps-refl _)

pub returns-in-None-clause-end : goal.returns-in-None-clause-end
returns-in-None-clause-end g c = λ task asked not_read not_memory. absurd (c.in-None.ensures task asked)

pub returns-in-Some-clause-end : goal.returns-in-Some-clause-end
returns-in-Some-clause-end g c = λ task asked. c.perform.ensures.end
