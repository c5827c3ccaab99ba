-- What `==` answers at coordinates.
use Rattle.std.proofs.Common.{◌≡◌, Bool, rules}
use Rattle.std.specs.Bool.{Decides}
use Rattle.hp_tables.specs.declared.index.Coordinate.{Coordinate}
use Rattle.hp_tables.specs.contracts.index.CoordinatePartialEq.TheImpl.{ghosts}

abbrev pub same_coordinate : Coordinate → Coordinate → Bool
same_coordinate = ghosts.eq

pub coordinates_tell : (x y : Coordinate) → Decides (same_coordinate x y) (x ≡ y)
coordinates_tell x y = search rules
