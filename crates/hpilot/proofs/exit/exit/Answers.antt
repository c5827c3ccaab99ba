use Rattle.std.proofs.Common.{inl, refl, sym, subst, map}
use Rattle.std.specs.Prelude.{string_bytes}
use Rattle.hp_cli.specs.declared.answer.Status.TheVariants.{Memory}
use Rattle.hp_cli.specs.Words.{Asks, IsUsage}
use Rattle.hpilot.proofs.exit.exit.Goals as goal

pub returns-in-Ok-clause-usage : goal.returns-in-Ok-clause-usage
returns-in-Ok-clause-usage g c = rw c.in-Ok.is (λ e. subst (λ words. IsUsage (map string_bytes words)) c.as_slice.ensures.value (c.run.ensures.usage e))

pub returns-in-Ok-clause-end : goal.returns-in-Ok-clause-end
returns-in-Ok-clause-end g c = rw c.in-Ok.is (λ task asked. c.run.ensures.end task (subst (λ words. Asks (map string_bytes words) task) (sym c.as_slice.ensures.value) asked))

pub returns-in-Err-Memory-clause-statuses : goal.returns-in-Err-Memory-clause-statuses
returns-in-Err-Memory-clause-statuses g c = inl (Memory, refl)
