use Rattle.std.proofs.Common.{◌≡◌, take}
use Rattle.hp_search.specs.inner.Singles.{lines_of_steps, splits_of, steps_in_order}
use Rattle.hp_search.proofs.singles.tree_of_steps.Given as goal

abbrev pub invariant-loop-at : goal.invariant-loop-at
invariant-loop-at l = (l.tree ≡ splits_of (lines_of_steps l.singles (take l.at l.steps))) × (l.ordered ≡ steps_in_order 0 (take l.at l.steps))
