use Rattle.std.proofs.Common.{◌≤◌, false}
use Rattle.std.proofs.lemmas.List.Elements.{All-more}
use Rattle.hp_lit.specs.declared.proof.Step.{Step}
use Rattle.hp_search.proofs.ahead.are_steps_within.Goals as goal

pub loop-step-preserved : goal.loop-step-preserved
loop-step-preserved c = All-more (λ (step : Step). step.lit ≤ c.args.count) c.args.steps.now c.loop-step.step-index (record { lit = 0; forward = false }) c.loop-step-test.true c.loop-step.invariant c.if-step-count.false
