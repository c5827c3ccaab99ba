-- The points of a function while its table is made: the rows, and what finds the arguments of each again.
use Rattle.std.specs.Prelude.{◌≡◌, List, map, pos}
use Rattle.hp_math.specs.Rational.{ℚ}
use Rattle.hp_model.specs.declared.structure.Row.{Row}
use Rattle.hp_local.specs.Frame.{Fact}
use Rattle.hp_local.specs.Rows.{first_facts, point_rows}
use Rattle.hp_tables.specs.declared.index.Coordinate.{Coordinate}

-- a value by its parts in lowest terms
abbrev pub coordinate : ℚ → Coordinate
coordinate q = record { num = q.num; den = pos q.den }

abbrev pub fact_coordinates : Fact → List Coordinate
fact_coordinates fact = map coordinate fact.args

-- a row for each point, equal ones once, and the arguments of each row at its place
pub record AreKept (facts : List Fact) (index : List (List Coordinate)) (rows : List Row) : Type 0 where
  pub index_is : index ≡ map fact_coordinates (first_facts facts)
  pub rows_are : rows ≡ point_rows facts
