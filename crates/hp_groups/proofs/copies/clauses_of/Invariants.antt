use Rattle.std.proofs.Common.{◌≡◌, filter, map, nat_eq, take}
use Rattle.hp_ruled.specs.Laws.{clause_of}
use Rattle.hp_groups.proofs.copies.clauses_of.Given as goal

abbrev pub invariant-loop-clause : goal.invariant-loop-clause
invariant-loop-clause l = l.own ≡ map clause_of (filter (λ k. nat_eq k.func l.func) (take l.clause-index l.clauses))
