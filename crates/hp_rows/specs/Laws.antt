-- What holds of chains, of their points, and of contradictions.
use Rattle.std.specs.Prelude.{◌≡◌, ℕ, ◌⊎◌, ℤ, pos, ◌<ℤ◌, List, length}
use Rattle.hp_math.specs.Rational.{ℚ, whole, ◌<ℚ◌}
use Rattle.hp_rows.specs.declared.row.Row.{Row}
use Rattle.hp_rows.specs.Rows.{Values, dot, MeetsAll, HoldsBelow, IsChain, Among, times_at, AreNotNegative, AreWide, IsContradiction, gaps}
use Rattle.hp_rows.specs.Points.{at_point, IsPointOf}
use Rattle.hp_rows.specs.Exact.{exact_point}

-- a combination of the rows of a chain that is over 0 at all values has a positive multiplier at each row of the chain,
-- and none that is negative
abbrev pub ChainIsPositive : Type 0
ChainIsPositive = (rows : List Row) (chain : List ℕ) (times : List ℤ) → IsChain rows chain
    → ((v : Values) → whole (pos 0) <ℚ dot times (gaps rows v))
    → ((i : ℕ) → Among chain i ⊎ (times_at times i ≡ pos 0))
    → ((i : ℕ) → Among chain i → pos 0 <ℤ times_at times i) × AreNotNegative times

-- the point that is computed for a chain is the exact one
abbrev pub PointsAreExact : Type 0
PointsAreExact = (rows : List Row) (w : ℕ) (chain : List ℕ) (point : List ℚ) → IsPointOf rows w chain point → point ≡ exact_point w rows chain

-- the point of a chain has a value for each column, and the rows of the chain are true there as equations
abbrev pub PointsMeetChains : Type 0
PointsMeetChains = (rows : List Row) (w : ℕ) (chain : List ℕ) (point : List ℚ) → AreWide w rows → IsPointOf rows w chain point
    → (length point ≡ w) × MeetsAll rows chain (at_point point)

-- no values make all rows hold that a combination contradicts
abbrev pub ContradictionsRefute : Type 0
ContradictionsRefute = (rows : List Row) (w : ℕ) (times : List ℤ) → AreWide w rows → IsContradiction w rows times → AreNotNegative times
    → (v : Values) → HoldsBelow rows (length rows) v → ⊥
