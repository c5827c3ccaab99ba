-- What the descent answers: a point at which every row holds, a contradiction, a strain, or want of memory; and what
-- comes of a chain that is given.
use Rattle.std.specs.Prelude.{◌≡◌, ℕ, ℤ, List, length, reverse}
use Rattle.hp_math.specs.Rational.{ℚ}
use Rattle.hp_rows.specs.declared.row.Row.{Row}
use Rattle.hp_rows.specs.declared.answer.Answer.{Answer}
use Rattle.hp_rows.specs.declared.answer.Answer.TheVariants as answer
use Rattle.hp_rows.specs.declared.answer.Located.{Located}
use Rattle.hp_rows.specs.declared.answer.Located.TheVariants as located
use Rattle.hp_rows.specs.Rows.{HoldsBelow, IsContradiction, AreNotNegative}
use Rattle.hp_rows.specs.Points.{at_point, IsPointOf}
use Rattle.hp_rows.specs.Strain.{IsStrain}

-- the point of this chain, the first row of which is listed first, with a value for each column; every row holds there
pub record IsPoint (rows : List Row) (w : ℕ) (chain : List ℕ) (point : List ℚ) : Type 0 where
  pub size : length point ≡ w
  pub point_of_chain : IsPointOf rows w (reverse chain) point
  pub holds : HoldsBelow rows (length rows) (at_point point)

-- a Farkas combination of the rows with no negative multiplier
pub record IsRefuted (rows : List Row) (w : ℕ) (times : List ℤ) : Type 0 where
  pub contradiction : IsContradiction w rows times
  pub none_negative : AreNotNegative times

-- each answer is what it claims to be; want of memory claims nothing
abbrev pub Answers : List Row → ℕ → Answer → Type 0
Answers rows w (answer.Point chain point) = IsPoint rows w chain point
Answers rows w (answer.Contradiction times) = IsRefuted rows w times
Answers rows w (answer.Strain s) = IsStrain rows w s
Answers rows w answer.Memory = Unit {0}

-- what comes of a chain, the first row of which is listed first: its point, or why it has none
abbrev pub Locates : List Row → ℕ → List ℕ → Located → Type 0
Locates rows w chain (located.Point point) = IsPointOf rows w (reverse chain) point
Locates rows w chain (located.Contradiction times) = IsRefuted rows w times
Locates rows w chain (located.Strain s) = IsStrain rows w s
Locates rows w chain located.Memory = Unit {0}
