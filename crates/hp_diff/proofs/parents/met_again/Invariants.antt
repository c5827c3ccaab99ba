use Rattle.std.proofs.Common.{◌≡◌, ◌<◌, length}
use Rattle.hp_diff.proofs.parents.met_again.Given as goal

abbrev pub invariant-loop : goal.invariant-loop
invariant-loop l = (l.node < l.nodes) × (length l.marks.items ≡ l.nodes)
