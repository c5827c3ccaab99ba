use Rattle.std.proofs.Common.{◌≡◌, ◌++◌, take}
use Rattle.hp_pairs.proofs.test.push_copies.Given as goal

abbrev pub invariant-loop-at : goal.invariant-loop-at
invariant-loop-at l = l.rows ≡ l.fn.rows ++ take l.at l.more
