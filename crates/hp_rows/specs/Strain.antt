-- The strain relation: over a chain of rows, the first number that passes 2^127 - 1 in the stated order of operations.
use Rattle.std.specs.Prelude.{◌≡◌, ℕ, ◌-◌, ◌<◌, pos, Ok, Err, List, ◌∷◌, length, reverse}
use Rattle.hp_math.specs.Rational.{ℚ, whole}
use Rattle.hp_num.specs.declared.wide.Wide.{Wide}
use Rattle.hp_rows.specs.declared.row.Row.{Row}
use Rattle.hp_rows.specs.declared.answer.Place.{Place}
use Rattle.hp_rows.specs.declared.answer.Place.TheVariants as place
use Rattle.hp_rows.specs.declared.answer.Strain.{Strain}
use Rattle.hp_rows.specs.Rows.{row_at, HoldsBelow, IsChain}
use Rattle.hp_rows.specs.Lines.{Line, line_of, reduce, equations}
use Rattle.hp_rows.specs.Points.{HavePivots, IsPointOf, at_point, point_of, left_of, values_of}

-- the chain's last row stands first
-- at a line: the equations of the chain are made, and eliminating them from this row, which can follow them, is strained
-- at the point: the equations of the chain are made, each with a pivot, and back substitution is strained
-- at a sum: the chain has a point, and there the sum of coefficient times value of this row is strained
-- at a value: the chain has a point, every row holds there, and a coordinate over the last one is strained
abbrev pub IsStrainAt : List Row → ℕ → List ℕ → Place → Wide → Type 0
IsStrainAt rows w chain (place.Line at) wide = IsChain rows (at ∷ chain) × ((gs : List Line) × (equations rows chain ≡ Ok gs) × (reduce gs (line_of rows at) ≡ Err wide))
IsStrainAt rows w chain place.Point wide = IsChain rows chain × ((gs : List Line) × (equations rows chain ≡ Ok gs) × HavePivots w gs × (point_of w gs ≡ Err wide))
IsStrainAt rows w chain (place.Sum at) wide = (at < length rows) × ((p : List ℚ) × IsPointOf rows w chain p × (left_of (whole (pos 0)) (row_at rows at).coefs p ≡ Err wide))
IsStrainAt rows w chain place.Value wide = (p : List ℚ) × IsPointOf rows w chain p × HoldsBelow rows (length rows) (at_point p) × (values_of (w - 1) p ≡ Err wide)

-- a strain lists its chain in the order in which the rows were taken
abbrev pub IsStrain : List Row → ℕ → Strain → Type 0
IsStrain rows w s = IsStrainAt rows w (reverse s.chain) s.place s.wide
