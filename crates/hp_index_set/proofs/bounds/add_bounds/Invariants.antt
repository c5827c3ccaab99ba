use Rattle.std.proofs.Common.{◌≡◌, drop}
use Rattle.std.specs.List.{flat_map}
use Rattle.hp_index_set.specs.IndexSet.{guard_bounds, with_indexes}
use Rattle.hp_index_set.proofs.bounds.add_bounds.Given as goal

abbrev pub invariant-loop-clause : goal.invariant-loop-clause
invariant-loop-clause l = with_indexes l.fn.indexes (flat_map (guard_bounds l.names) l.clauses) ≡ with_indexes l.indexes (flat_map (guard_bounds l.names) (drop l.clause-index l.clauses))
