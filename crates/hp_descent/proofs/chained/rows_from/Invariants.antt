use Rattle.std.proofs.Common.{◌≡◌, map, take, suc}
use Rattle.hp_descent.proofs.chained.rows_from.Given as goal

abbrev pub invariant-loop-number : goal.invariant-loop-number
invariant-loop-number l = map suc l.rows ≡ take l.number-index l.chain
