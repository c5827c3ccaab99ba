use Rattle.std.proofs.Common.{◌≤◌, take}
use Rattle.std.specs.List.{All}
use Rattle.hp_lit.specs.declared.proof.Step.{Step}
use Rattle.hp_search.proofs.ahead.are_steps_within.Given as goal

abbrev pub invariant-loop-step : goal.invariant-loop-step
invariant-loop-step l = All (λ (step : Step). step.lit ≤ l.count) (take l.step-index l.steps)
