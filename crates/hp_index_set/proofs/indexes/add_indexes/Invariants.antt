use Rattle.std.proofs.Common.{◌≡◌, drop}
use Rattle.hp_index_set.specs.IndexSet.{with_indexes}
use Rattle.hp_index_set.proofs.indexes.add_indexes.Given as goal

abbrev pub invariant-loop-index : goal.invariant-loop-index
invariant-loop-index l = with_indexes l.fn.indexes l.more ≡ with_indexes l.indexes (drop l.index-index l.more)
