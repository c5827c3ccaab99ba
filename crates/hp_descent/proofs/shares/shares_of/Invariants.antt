use Rattle.std.proofs.Common.{◌≡◌, ◌++◌, ◌≤◌, ◌+◌, ◌*◌, drop, suc}
use Rattle.std.specs.List.{All}
use Rattle.hp_descent.specs.inner.Shares.{IsNarrow, shares_from, shares_of, signed}
use Rattle.hp_descent.proofs.shares.shares_of.Given as goal

abbrev pub invariant-loop-at : goal.invariant-loop-at
invariant-loop-at l = record {
  so_far : shares_of l.lits l.times ≡ l.shares ++ shares_from (suc l.at) (signed (drop l.at l.lits) (drop l.row l.times));
  narrow : All IsNarrow l.shares;
  small : l.row ≤ 2 * l.at + 1;
}
