use Rattle.std.proofs.Common.{sym, subst}
use Rattle.hp_cli.specs.Answer.{IsFault, write}
use Rattle.hp_cli.proofs.Tells.{wrote_as_wanted, wrote_part, wrote_whole}
use Rattle.hp_cli.proofs.running.finish.Goals as goal

pub returns-in-Ok-clause-cause : goal.returns-in-Ok-clause-cause
returns-in-Ok-clause-cause g c = λ e. absurd (c.requires (subst IsFault (sym e) write))

pub returns-in-Ok-clause-content : goal.returns-in-Ok-clause-content
returns-in-Ok-clause-content g c = λ words bytes answer. wrote_whole words bytes _ _ _ _ answer c.in-Ok.ensures.all

pub returns-in-Err-Failed-clause-content : goal.returns-in-Err-Failed-clause-content
returns-in-Err-Failed-clause-content g c = λ words bytes answer. wrote_part words bytes _ c.args.status _ _ answer c.write_all.ensures.front

pub returns-in-Err-Memory-clause-content : goal.returns-in-Err-Memory-clause-content
returns-in-Err-Memory-clause-content g c = λ words bytes answer. wrote_as_wanted words bytes _ c.args.status _ _ answer c.write_all.ensures.front
