use Rattle.std.proofs.Common.{◌≡◌, length}
use Rattle.hp_diff.proofs.parents.shown_cycle.Given as goal

abbrev pub invariant-loop-root : goal.invariant-loop-root
invariant-loop-root l = length l.marks.items ≡ l.nodes
