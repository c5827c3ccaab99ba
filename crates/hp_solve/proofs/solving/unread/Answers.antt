use Rattle.std.proofs.Common.{Err, subst}
use Rattle.hp_chain.specs.declared.answer.ChainErr.{ChainErr}
use Rattle.hp_chain.specs.Answers.{ClassifiedAs}
use Rattle.hp_solve.proofs.solving.unread.Goals as goal

pub returns-in-Outside : goal.returns-in-Outside
returns-in-Outside c = λ most. subst (λ (e : ChainErr). ClassifiedAs c.args.p.now (Err e)) c.in-Outside.is c.requires.cause

pub returns-in-Strain : goal.returns-in-Strain
returns-in-Strain c = λ most. subst (λ (e : ChainErr). ClassifiedAs c.args.p.now (Err e)) c.in-Strain.is c.requires.cause

pub returns-in-Limit : goal.returns-in-Limit
returns-in-Limit c = λ most. subst (λ (e : ChainErr). ClassifiedAs c.args.p.now (Err e)) c.in-Limit.is c.requires.cause
