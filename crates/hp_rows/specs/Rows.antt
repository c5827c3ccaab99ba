-- Rows of whole coefficients with a bound, chains of rows, and combinations of rows that contradict them.
use Rattle.std.specs.Prelude.{◌≡◌, ℕ, suc, ◌<◌, ◌⊎◌, ℤ, pos, ◌+ℤ◌, ◌*ℤ◌, ◌≤ℤ◌, ◌<ℤ◌, List, [], ◌∷◌, length, get_or}
use Rattle.hp_rows.specs.declared.row.Row.{Row}
use Rattle.hp_math.specs.Rational.{ℚ, whole, ◌+ℚ◌, ◌*ℚ◌, ◌-ℚ◌, ◌≤ℚ◌, ◌<ℚ◌}

-- a value for each column, counted from 0
abbrev pub Values : Type 0
Values = ℕ → ℚ

-- the sum of coefficient times value over the columns
abbrev pub dot : List ℤ → Values → ℚ
dot [] v = whole (pos 0)
dot (c ∷ cs) v = (whole c *ℚ v 0) +ℚ dot cs (λ k. v (suc k))

-- a row that says nothing
abbrev pub no_row : Row
no_row = record { coefs = []; bound = pos 0 }

-- a row by its number, counted from 0
abbrev pub row_at : List Row → ℕ → Row
row_at rows n = get_or rows n no_row

-- the left side is at most the bound
pub record Holds (row : Row) (v : Values) : Type 0 where
  pub le : dot row.coefs v ≤ℚ whole row.bound

-- the row is true as an equation
pub record Meets (row : Row) (v : Values) : Type 0 where
  pub eq : dot row.coefs v ≡ whole row.bound

-- the left side is above the bound
pub record Breaks (row : Row) (v : Values) : Type 0 where
  pub gt : whole row.bound <ℚ dot row.coefs v

-- these rows are true as equations
abbrev pub MeetsAll : List Row → List ℕ → Values → Type 0
MeetsAll rows [] v = Unit {0}
MeetsAll rows (e ∷ es) v = Meets (row_at rows e) v × MeetsAll rows es v

-- the rows with smaller numbers hold
abbrev pub HoldsBelow : List Row → ℕ → Values → Type 0
HoldsBelow rows n v = (i : ℕ) → i < n → Holds (row_at rows i) v

-- a row number is below these
abbrev pub IsBelow : ℕ → List ℕ → Type 0
IsBelow e [] = Unit {0}
IsBelow e (x ∷ xs) = (e < x) × IsBelow e xs

-- row e can follow the rows `before`, the last of which stands first: some values make those rows true as equations,
-- make all rows with smaller numbers than e hold, and break e
pub record IsLink (rows : List Row) (before : List ℕ) (e : ℕ) : Type 0 where
  pub within : e < length rows
  pub falls : IsBelow e before
  pub values : Values
  pub meets : MeetsAll rows before values
  pub holds : HoldsBelow rows e values
  pub breaks : Breaks (row_at rows e) values

-- a chain: falling row numbers, each of which can follow those before it; its last row stands first
abbrev pub IsChain : List Row → List ℕ → Type 0
IsChain rows [] = Unit {0}
IsChain rows (e ∷ es) = IsLink rows es e × IsChain rows es

-- i is one of these numbers
abbrev pub Among : List ℕ → ℕ → Type 0
Among [] i = ⊥
Among (e ∷ es) i = (e ≡ i) ⊎ Among es i

-- the multiplier of a row, 0 where none is listed
abbrev pub times_at : List ℤ → ℕ → ℤ
times_at times i = get_or times i (pos 0)

-- the sum over the rows of multiplier times a number of the row
abbrev pub sum_of : (Row → ℤ) → List ℤ → List Row → ℤ
sum_of f [] rows = pos 0
sum_of f (m ∷ ms) [] = pos 0
sum_of f (m ∷ ms) (r ∷ rs) = (m *ℤ f r) +ℤ sum_of f ms rs

-- the sum over the rows of multiplier times coefficient at a column
abbrev pub sum_column : ℕ → List ℤ → List Row → ℤ
sum_column k times rows = sum_of (λ r. get_or r.coefs k (pos 0)) times rows

-- the sum over the rows of multiplier times bound
abbrev pub sum_bounds : List ℤ → List Row → ℤ
sum_bounds times rows = sum_of (λ r. r.bound) times rows

-- a Farkas combination: left sides that add to nothing, under bounds that add to less than 0
pub record IsContradiction (width : ℕ) (rows : List Row) (times : List ℤ) : Type 0 where
  pub count : length times ≡ length rows
  pub columns : (k : ℕ) → k < width → sum_column k times rows ≡ pos 0
  pub bound : sum_bounds times rows <ℤ pos 0

-- no multiplier is negative
abbrev pub AreNotNegative : List ℤ → Type 0
AreNotNegative times = (i : ℕ) → pos 0 ≤ℤ times_at times i

-- each row has as many coefficients as there are columns
abbrev pub AreWide : ℕ → List Row → Type 0
AreWide width rows = (i : ℕ) → i < length rows → length (row_at rows i).coefs ≡ width

-- how far the left side is over the bound
abbrev pub gap : Row → Values → ℚ
gap row v = dot row.coefs v -ℚ whole row.bound

-- how far each row's left side is over its bound
abbrev pub gaps : List Row → Values → Values
gaps rows v i = gap (row_at rows i) v
