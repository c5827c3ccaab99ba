use Rattle.std.proofs.Common.{◌≡◌, ◌≤◌, ◌-◌, ◌+◌, ◌++◌, length, replicate}
use Rattle.hp_tuples.proofs.tuples.add_zeros.Given as goal

abbrev pub invariant-loop-left : goal.invariant-loop-left
invariant-loop-left l = record {
  within : l.left ≤ l.count;
  items : l.tuple.items ≡ l.initial.tuple.items ++ replicate (l.count - l.left) 0;
  capacity : l.tuple.capacity ≡ l.initial.tuple.capacity;
  room : length l.tuple.items + l.left ≤ l.tuple.capacity;
}

abbrev pub decreases-loop-left : goal.decreases-loop-left
decreases-loop-left l = l.left
