use Rattle.std.proofs.Common.{◌≤◌, length}
use Rattle.hp_search.proofs.parts.unnamed.Given as goal

abbrev pub invariant-loop-at : goal.invariant-loop-at
invariant-loop-at l = length l.left ≤ l.at
