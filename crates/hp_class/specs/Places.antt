-- The applications at places of definitions, counted from 0, and the lines of each two of them.
use Rattle.std.specs.Prelude.{ℕ, List, [], ◌∷◌, ◌++◌, Option, Some, None, slice_get}
use Rattle.hp_lit.specs.declared.line.Def.{Def}
use Rattle.hp_base.specs.Congruence.{Point, congruence_at, point_of}
use Rattle.hp_base.specs.Making.{Maker}

abbrev pub point_at : Option Def → List Point
point_at None = []
point_at (Some d) = point_of d ∷ []

-- the applications at these places
abbrev pub points_at : List Def → List ℕ → List Point
points_at ds [] = []
points_at ds (k ∷ ks) = point_at (slice_get ds k) ++ points_at ds ks

-- the line of the applications at two places
abbrev pub line_at : ℕ → ℕ × ℕ → Maker (Unit {0})
line_at func pair = congruence_at func pair.0 pair.1
