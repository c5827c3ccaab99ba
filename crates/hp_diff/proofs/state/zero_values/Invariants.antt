use Rattle.hp_diff.specs.inner.State.{AreZero}
use Rattle.hp_diff.proofs.state.zero_values.Given as goal

abbrev pub invariant-loop-done : goal.invariant-loop-done
invariant-loop-done l = AreZero l._done l.list
