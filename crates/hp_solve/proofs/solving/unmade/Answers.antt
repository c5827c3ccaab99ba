use Rattle.std.proofs.Common.{Err, subst}
use Rattle.hp_lit.specs.declared.refusal.GroundErr.{GroundErr}
use Rattle.hp_chain.specs.Answers.{DescendedAs}
use Rattle.hp_solve.proofs.solving.unmade.Goals as goal

pub returns-in-Limit : goal.returns-in-Limit
returns-in-Limit c = λ most. subst (λ (e : GroundErr). DescendedAs c.args.p.now c.args.chain.now (Err e)) c.in-Limit.is c.requires.cause
