use Rattle.std.proofs.Common.{◌≡◌, drop}
use Rattle.hp_index_set.specs.IndexSet.{applied_at, with_indexes}
use Rattle.hp_index_set.proofs.applied.add_applied.Given as goal

abbrev pub invariant-loop-definition : goal.invariant-loop-definition
invariant-loop-definition l = with_indexes l.fn.indexes (applied_at l.own l.definitions) ≡ with_indexes l.indexes (applied_at l.own (drop l.definition-index l.definitions))
