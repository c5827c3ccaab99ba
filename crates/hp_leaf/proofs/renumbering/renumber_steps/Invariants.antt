use Rattle.std.proofs.Common.{◌≡◌, take}
use Rattle.hp_leaf.specs.Renumbered.{renumbered_steps}
use Rattle.hp_leaf.proofs.renumbering.renumber_steps.Given as goal

abbrev pub invariant-loop-step : goal.invariant-loop-step
invariant-loop-step l = l.renumbered ≡ renumbered_steps l.places (take l.step-index l.steps)
