use Rattle.std.proofs.Common.{ℕ, ◌+◌, ◌<◌, get_or}
use Rattle.hp_lit.specs.Fit.{part_names}
use Rattle.hp_descent.proofs.fit.are_rising.Given as goal

abbrev pub invariant-loop-at : goal.invariant-loop-at
invariant-loop-at l = (k : ℕ) → k + 1 < l.at → get_or (part_names l.parts) k 0 < get_or (part_names l.parts) (k + 1) 0
