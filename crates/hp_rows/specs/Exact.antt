-- The point of a chain over all whole numbers and fractions, with no number that is too wide.
use Rattle.std.specs.Prelude.{◌≡◌, ℕ, ◌<◌, ℤ, ◌-ℤ◌, ◌*ℤ◌, if◌then◌else◌, List, [], ◌∷◌, length, set, take}
use Rattle.hp_math.specs.Rational.{ℚ, whole, ◌-ℚ◌, ◌*ℚ◌, ◌/ℚ◌}
use Rattle.hp_rows.specs.declared.row.Row.{Row}
use Rattle.hp_rows.specs.Rows.{dot}
use Rattle.hp_rows.specs.Arithmetic.{is_nothing}
use Rattle.hp_rows.specs.Lines.{Line, entry, pivot, line_of, row_share, line_share, divided}
use Rattle.hp_rows.specs.Points.{at_point, zeros}

-- d*row - c*g, entry by entry
abbrev pub exact_subtract : ℤ → Line → ℤ → Line → Line
exact_subtract d [] c gs = []
exact_subtract d (r ∷ rs) c [] = []
exact_subtract d (r ∷ rs) c (g ∷ gs) = ((d *ℤ r) -ℤ (c *ℤ g)) ∷ exact_subtract d rs c gs

-- the row cleared at the pivot of g
abbrev pub exact_clear : Line → Line → Line
exact_clear g row = if is_nothing (entry row (pivot g)) then row else divided (exact_subtract (row_share g row) row (line_share g row) g)

-- the row cleared at the pivots of the equations in turn, the last of which stands first
abbrev pub exact_reduce : List Line → Line → Line
exact_reduce [] row = row
exact_reduce (g ∷ gs) row = exact_clear g (exact_reduce gs row)

-- the reduced equations of a chain, both with their last row first
abbrev pub exact_equations : List Row → List ℕ → List Line
exact_equations rows [] = []
exact_equations rows (e ∷ es) = exact_reduce (exact_equations rows es) (line_of rows e) ∷ exact_equations rows es

-- the coordinate at the pivot of g: the bound less the other products, over the entry at the pivot
abbrev pub exact_coordinate : Line → List ℚ → ℚ
exact_coordinate g xs = (whole (entry g (length xs)) -ℚ dot (take (length xs) g) (at_point xs)) /ℚ whole (entry g (pivot g))

-- the coordinates at the pivots, the last equation's first
abbrev pub exact_solve : List Line → List ℚ → List ℚ
exact_solve [] xs = xs
exact_solve (g ∷ gs) xs = exact_solve gs (set xs (pivot g) (exact_coordinate g xs))

-- the point of a chain whose equations have pivots among the columns, the chain's last row first
abbrev pub exact_point : ℕ → List Row → List ℕ → List ℚ
exact_point w rows chain = exact_solve (exact_equations rows chain) (zeros w)

-- the coordinates before column t, each over the one at t
pub record AreQuotients (t : ℕ) (xs ys : List ℚ) : Type 0 where
  pub count : length ys ≡ t
  pub each : (k : ℕ) → k < t → at_point ys k *ℚ at_point xs t ≡ at_point xs k
