use Rattle.std.proofs.Common.{map, take}
use Rattle.hp_tables.specs.Kept.{AreKept}
use Rattle.hp_class.specs.Places.{points_at}
use Rattle.hp_class.specs.Frame.{fact_of}
use Rattle.hp_tables.proofs.tables.table.Given as goal

abbrev pub invariant-loop-place : goal.invariant-loop-place
invariant-loop-place l = AreKept (map (fact_of l.func l.values) (points_at l.definitions (take l.place-index l.places))) l.index l.rows
