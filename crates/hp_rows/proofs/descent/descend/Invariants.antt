use Rattle.std.proofs.Common.{length, reverse, ◌-◌}
use Rattle.hp_rows.specs.inner.Descent.{high, rank}
use Rattle.hp_rows.specs.inner.Steps.{IsStateOf}
use Rattle.hp_rows.proofs.descent.descend.Given as goal

abbrev pub invariant-loop-state : goal.invariant-loop-state
invariant-loop-state l = IsStateOf l.rows l.width l.state

abbrev pub decreases-loop-state : goal.decreases-loop-state
decreases-loop-state l = high (length l.rows) - rank (reverse l.state.chain) l.state.at
