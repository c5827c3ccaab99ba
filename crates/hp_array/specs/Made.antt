-- The class of a group of arrays, as it is made.
use Rattle.std.specs.Prelude.{ℕ, List}
use Rattle.hp_tree.specs.Value.{Word}
use Rattle.hp_norm.specs.declared.flat.FlatClause.{FlatClause}
use Rattle.hp_array.specs.declared.arrays.Arrays.{Arrays}

abbrev pub arrays_at : List ℕ → List Word → List FlatClause → Arrays
arrays_at own words clauses = record { own = own; words = words; clauses = clauses }
