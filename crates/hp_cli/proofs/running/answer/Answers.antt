use Rattle.std.proofs.Common.{ℕ, List, refl, sym, subst}
use Rattle.hp_cli.specs.Answer.{Answers, done, wanting}
use Rattle.hp_cli.proofs.Codes.{done_whole, not_read_fault, not_usage}
use Rattle.hp_cli.proofs.Tells.{wrote_nothing}
use Rattle.hp_cli.proofs.running.answer.Goals as goal

pub finish-requires : goal.finish-requires
finish-requires g c = done_whole c.args.bytes.now c.in-Ok.answer.text c.args.task c.in-Ok.answer.status c.in-Ok.ensures

pub returns-in-Ok-clause-not_usage : goal.returns-in-Ok-clause-not_usage
returns-in-Ok-clause-not_usage g c = not_usage c.args.bytes.now c.in-Ok.answer.text c.args.task _ c.in-Ok.answer.status c.in-Ok.ensures c.finish.ensures.status

pub returns-in-Ok-clause-not_read : goal.returns-in-Ok-clause-not_read
returns-in-Ok-clause-not_read g c = not_read_fault c.args.bytes.now c.in-Ok.answer.text c.args.task _ c.in-Ok.answer.status c.in-Ok.ensures c.finish.ensures.status

pub returns-in-Ok-clause-content : goal.returns-in-Ok-clause-content
returns-in-Ok-clause-content g c = λ words input asked e.
    let answer = c.in-Ok.answer in
    c.finish.ensures.content words input
    (subst (λ (bytes : List ℕ). Answers words bytes c.as_slice.result.now answer.status) (sym e)
    (subst (λ (text : List ℕ). Answers words c.args.bytes.now text answer.status) (sym c.as_slice.ensures) (done asked c.in-Ok.ensures)))

pub returns-in-Err-clause-content : goal.returns-in-Err-clause-content
returns-in-Err-clause-content g c = λ words input asked e. wrote_nothing _ _ (wanting refl)
