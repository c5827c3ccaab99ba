use Rattle.std.proofs.Common.{◌≤◌, ◌+◌, drop, length}
use Rattle.std.specs.List.{All}
use Rattle.hp_tuples.proofs.tuples.raised.Given as goal

abbrev pub invariant-loop-left : goal.invariant-loop-left
invariant-loop-left l = record {
  within : l.left ≤ length l.tuple;
  last : All (λ x. l.size ≤ x + 1) (drop l.left l.tuple);
}

abbrev pub decreases-loop-left : goal.decreases-loop-left
decreases-loop-left l = l.left
