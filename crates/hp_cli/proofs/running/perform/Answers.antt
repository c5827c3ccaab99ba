use Rattle.std.proofs.Common.{inl, inr, refl, sym}
use Rattle.hp_cli.specs.Answer.{unread, wanting}
use Rattle.hp_cli.proofs.Tells.{told_nothing}
use Rattle.hp_cli.proofs.Transfers.{all_left, ended_few, long_left}
use Rattle.hp_cli.proofs.running.perform.Goals as goal

pub returns-in-Failed-clause-content : goal.returns-in-Failed-clause-content
returns-in-Failed-clause-content g c = λ words asked. told_nothing _ _ _ (λ bytes. unread refl)

pub returns-in-Failed-clause-end : goal.returns-in-Failed-clause-end
returns-in-Failed-clause-end g c = λ not_read not_memory. absurd (not_read refl)

pub returns-in-Memory-clause-content : goal.returns-in-Memory-clause-content
returns-in-Memory-clause-content g c = λ words asked. told_nothing _ _ _ (λ bytes. wanting refl)

pub returns-in-Memory-clause-end : goal.returns-in-Memory-clause-end
returns-in-Memory-clause-end g c = λ not_read not_memory. absurd (not_memory refl)

pub returns-in-Long-clause-content : goal.returns-in-Long-clause-content
returns-in-Long-clause-content g c = λ words asked.
    let left = long_left _ _ c.in-Long.ensures.input in
    (left.0, left.1, c.refuse_long.ensures.content words left.0 asked left.2)

pub returns-in-Long-clause-few : goal.returns-in-Long-clause-few
returns-in-Long-clause-few g c = ended_few _ _ (inr c.in-Long.ensures.input)

pub returns-in-Long-clause-end : goal.returns-in-Long-clause-end
returns-in-Long-clause-end g c = λ not_read not_memory. inr c.in-Long.ensures.input

pub returns-in-All-clause-content : goal.returns-in-All-clause-content
returns-in-All-clause-content g c = λ words asked.
    (c.in-All.bytes.items, all_left _ _ _ c.in-All.ensures.input, c.answer.ensures.content words c.in-All.bytes.items asked (sym c.deref.ensures.value))

pub returns-in-All-clause-few : goal.returns-in-All-clause-few
returns-in-All-clause-few g c = ended_few _ _ (inl (c.in-All.bytes.items, c.in-All.ensures.input))

pub returns-in-All-clause-end : goal.returns-in-All-clause-end
returns-in-All-clause-end g c = λ not_read not_memory. inl (c.in-All.bytes.items, c.in-All.ensures.input)
