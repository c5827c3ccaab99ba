use Rattle.hp_diff.specs.inner.State.{IsZeros}
use Rattle.hp_diff.proofs.state.zeros.Given as goal

abbrev pub invariant-loop-done : goal.invariant-loop-done
invariant-loop-done l = IsZeros l._done l.list
