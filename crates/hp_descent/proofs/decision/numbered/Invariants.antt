use Rattle.std.proofs.Common.{◌≡◌, map, take, suc}
use Rattle.hp_descent.proofs.decision.numbered.Given as goal

abbrev pub invariant-loop-row : goal.invariant-loop-row
invariant-loop-row l = l.numbers ≡ map suc (take l.row-index l.chain)
