-- Where the descent stands, and why it ends.
use Rattle.std.specs.Prelude.{◌≡◌, ℕ, zero, suc, ◌+◌, ◌≤◌, Ok, List, [], ◌∷◌, length}
use Rattle.hp_math.specs.Rational.{ℚ}
use Rattle.hp_rows.specs.declared.row.Row.{Row}
use Rattle.hp_rows.specs.Rows.{MeetsAll, HoldsBelow, IsChain}
use Rattle.hp_rows.specs.Lines.{Line, equations}
use Rattle.hp_rows.specs.Points.{at_point, HavePivots, IsPointOf}

-- ---- the measure: a row that was passed counts more than all that can happen below it
unfoldable pub high : ℕ → ℕ
high zero = 0
high (suc i) = high i + high i + 2

-- how far the descent is, on this chain at row i
unfoldable pub rank : List ℕ → ℕ → ℕ
rank [] i = high i
rank (e ∷ es) i = suc (high e) + rank es i

-- row i is at most the last row of the chain, or the number of rows where the chain is empty
unfoldable pub IsUnder : ℕ → List ℕ → ℕ → Type 0
IsUnder n [] i = i ≤ n
IsUnder n (e ∷ es) i = (i ≤ e) × IsUnder n es (suc e)

-- a chain with its reduced equations, and the point of a chain that was longer or the same: it meets the rows of this
-- chain, and the rows below `at` hold there
pub record IsState (rows : List Row) (w : ℕ) (chain : List ℕ) (lines : List Line) (found : List ℕ) (point : List ℚ) (at : ℕ) : Type 0 where
  pub is_chain : IsChain rows chain
  pub made : equations rows chain ≡ Ok lines
  pub pivots : HavePivots w lines
  pub under : IsUnder (length rows) chain at
  pub point_of_found : IsPointOf rows w found point
  pub meets : MeetsAll rows chain (at_point point)
  pub holds : HoldsBelow rows at (at_point point)
  pub size : length point ≡ w
