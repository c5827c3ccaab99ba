-- What `==` answers at cells.
use Rattle.std.proofs.Common.{◌≡◌, Bool, rules}
use Rattle.std.specs.Bool.{Decides}
use Rattle.hp_defs.specs.declared.cell.Cell.{Cell}
use Rattle.hp_defs.specs.contracts.cell.CellPartialEq.TheImpl.{ghosts}

abbrev pub same_cell : Cell → Cell → Bool
same_cell = ghosts.eq

pub cells_tell : (x y : Cell) → Decides (same_cell x y) (x ≡ y)
cells_tell x y = search rules
