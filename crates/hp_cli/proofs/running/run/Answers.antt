use Rattle.std.proofs.Common.{◌∙◌, sym, ap}
use Rattle.hp_cli.specs.Answer.{code}
use Rattle.hp_cli.specs.declared.answer.Status.TheVariants.{Usage, ReadFault, WriteFault}
use Rattle.hp_cli.proofs.Codes.{same_code}
use Rattle.hp_cli.proofs.Settled.{stands_settled}
use Rattle.hp_cli.proofs.Tells.{told_left, told_map}
use Rattle.hp_cli.proofs.running.run.Goals as goal

pub returns-clause-usage : goal.returns-clause-usage
returns-clause-usage g c = λ e. c.outcome.ensures.usage (same_code _ Usage (sym c.code.ensures ∙ e))

pub returns-clause-read_fault : goal.returns-clause-read_fault
returns-clause-read_fault g c = λ e. c.outcome.ensures.read_fault (same_code _ ReadFault (sym c.code.ensures ∙ e))

pub returns-clause-write_fault : goal.returns-clause-write_fault
returns-clause-write_fault g c = λ e. c.outcome.ensures.write_fault (same_code _ WriteFault (sym c.code.ensures ∙ e))

pub returns-clause-end : goal.returns-clause-end
returns-clause-end g c = λ task asked not_read not_memory.
    c.outcome.ensures.end task asked (λ e. not_read (c.code.ensures ∙ ap code e)) (λ e. not_memory (c.code.ensures ∙ ap code e))

pub returns-clause-settled : goal.returns-clause-settled
returns-clause-settled g c = λ solving.
    told_left _ _ _ _ _ (λ bytes out stands. λ p scope. (c.outcome.result, stands_settled bytes out p scope _ c.outcome.result solving stands, c.code.ensures)) c.outcome.ensures.content

pub returns-clause-content : goal.returns-clause-content
returns-clause-content g c =
    told_map _ _ _ _ _ (λ bytes out stands. record { status = c.outcome.result; coded = c.code.ensures; stands = stands }) c.outcome.ensures.content
