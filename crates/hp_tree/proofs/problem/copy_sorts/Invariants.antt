use Rattle.std.proofs.Common.{◌≡◌, take}
use Rattle.hp_tree.proofs.problem.copy_sorts.Given as goal

abbrev pub invariant-loop-sort : goal.invariant-loop-sort
invariant-loop-sort l = l.all ≡ take l.sort-index l.sorts
