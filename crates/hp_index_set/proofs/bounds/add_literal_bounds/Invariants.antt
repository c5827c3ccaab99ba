use Rattle.std.proofs.Common.{◌≡◌, drop}
use Rattle.std.specs.List.{flat_map}
use Rattle.hp_index_set.specs.IndexSet.{literal_bounds, with_indexes}
use Rattle.hp_index_set.proofs.bounds.add_literal_bounds.Given as goal

abbrev pub invariant-loop-lit : goal.invariant-loop-lit
invariant-loop-lit l = with_indexes l.fn.indexes (flat_map (literal_bounds l.names) l.lits) ≡ with_indexes l.indexes (flat_map (literal_bounds l.names) (drop l.lit-index l.lits))
