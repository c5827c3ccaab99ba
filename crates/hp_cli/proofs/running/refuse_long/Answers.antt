use Rattle.std.proofs.Common.{ℕ, List, refl, sym, subst}
use Rattle.hp_cli.specs.Answer.{Answers, IsWhole, done, wanting}
use Rattle.hp_cli.proofs.Codes.{limit_whole}
use Rattle.hp_cli.proofs.Tells.{wrote_nothing}
use Rattle.hp_cli.proofs.running.refuse_long.Goals as goal

pub finish-requires : goal.finish-requires
finish-requires g c = subst IsWhole (sym c.in-Ok.ensures.0) limit_whole

pub returns-in-Ok-clause-content : goal.returns-in-Ok-clause-content
returns-in-Ok-clause-content g c = λ words bytes asked long.
    let answer = c.in-Ok.answer in
    c.finish.ensures.content words bytes
    (subst (λ (text : List ℕ). Answers words bytes text answer.status) (sym c.as_slice.ensures) (done asked (c.in-Ok.ensures.1 bytes long)))

pub returns-in-Err-clause-content : goal.returns-in-Err-clause-content
returns-in-Err-clause-content g c = λ words bytes asked long. wrote_nothing _ _ (wanting refl)
