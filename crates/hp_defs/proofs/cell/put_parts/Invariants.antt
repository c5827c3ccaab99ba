use Rattle.std.proofs.Common.{◌≡◌, ◌++◌, map, take}
use Rattle.hp_defs.specs.Cells.{part_cell}
use Rattle.hp_defs.proofs.cell.put_parts.Given as goal

abbrev pub invariant-loop-part : goal.invariant-loop-part
invariant-loop-part l = l.all.items ≡ l.fn.all.items ++ map part_cell (take l.part-index l.parts)
