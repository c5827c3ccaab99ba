use Rattle.std.proofs.Common.{◌≡◌, filter, map, nat_eq, take}
use Rattle.hp_ruled.specs.Laws.{array_clause_of}
use Rattle.hp_groups.proofs.arrays.array_clauses.Given as goal

abbrev pub invariant-loop-clause : goal.invariant-loop-clause
invariant-loop-clause l = l.over ≡ map array_clause_of (filter (λ k. nat_eq k.level l.level) (take l.clause-index l.clauses))
