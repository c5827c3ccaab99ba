use Rattle.std.proofs.Common.{◌≡◌, map, take}
use Rattle.hp_tables.specs.Kept.{coordinate}
use Rattle.hp_tables.proofs.index.coordinates.Given as goal

abbrev pub invariant-loop-value : goal.invariant-loop-value
invariant-loop-value l = l.point.items ≡ map coordinate (take l.value-index l.values)
