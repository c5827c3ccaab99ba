use Rattle.std.proofs.Common.{◌≡◌, take, ◌++◌}
use Rattle.std.specs.List.{flat_map}
use Rattle.hp_cert.specs.Trees.{step_text}
use Rattle.hp_cert.proofs.nodes.put_steps.Given as goal

abbrev pub invariant-loop-step : goal.invariant-loop-step
invariant-loop-step l = l.out ≡ l.fn.out ++ flat_map step_text (take l.step-index l.steps)
