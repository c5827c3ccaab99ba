use Rattle.hp_leaf.proofs.Cycles.{loop_none, loop_step}
use Rattle.hp_leaf.proofs.cycle.leads_back.Goals as goal

pub returns-in-None-clause-no : goal.returns-in-None-clause-no
returns-in-None-clause-no c = λ e h. loop_none c.args.path.now c.args.steps.now c.loop-step.step-index _ c.loop-step.at c.args.start c.loop-step-test.true c.in-None.ensures.none (c.loop-step.invariant.0 h)

pub loop-step-preserved : goal.loop-step-preserved
loop-step-preserved c =
    let w = loop_step c.args.path.now c.args.steps.now c.loop-step.step-index _ c.loop-step.at c.args.start c.in-Some.row c.loop-step-test.true c.in-Some.ensures.some (c.is_same.ensures.yes c.if-not-is_same.false) in
    (λ h. w.0 (c.loop-step.invariant.0 h), λ h. c.loop-step.invariant.1 (w.1 h))
