use Rattle.std.proofs.Common.{◌≡◌, ◌++◌, drop}
use Rattle.hp_arrays.specs.Arrays.{arrays_tables}
use Rattle.hp_arrays.proofs.table.array_tables.Given as goal

abbrev pub invariant-loop-at : goal.invariant-loop-at
invariant-loop-at l = arrays_tables l.own l.words l.names l.values ≡ l.tables ++ arrays_tables (drop l.at l.own) (drop l.at l.words) l.names l.values
