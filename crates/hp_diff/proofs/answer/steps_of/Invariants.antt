use Rattle.std.proofs.Common.{◌≡◌, take, map}
use Rattle.hp_diff.specs.inner.Edges.{step_at}
use Rattle.hp_diff.proofs.answer.steps_of.Given as goal

abbrev pub invariant-loop-number : goal.invariant-loop-number
invariant-loop-number l = l.steps ≡ map (step_at l.edges) (take l.number-index l.cycle)
