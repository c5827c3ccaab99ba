use Rattle.std.proofs.Common.{◌≡◌, take}
use Rattle.hp_tree.proofs.problem.copy_clauses.Given as goal

abbrev pub invariant-loop-clause : goal.invariant-loop-clause
invariant-loop-clause l = l.all ≡ take l.clause-index l.clauses
