-- A combination of linear rows that adds to nothing below 0: the evidence that no fractions make all the rows true.
use Rattle.std.specs.Prelude.{◌≡◌, ℕ, List, [], ◌∷◌, ◌⊎◌, ℤ, pos, ◌+ℤ◌, ◌*ℤ◌, ◌<ℤ◌, nat_eq, if◌then◌else◌}
use Rattle.hp_math.specs.Rational.{ℚ, whole, ◌+ℚ◌, ◌*ℚ◌, ◌≤ℚ◌, ◌<ℚ◌}

-- how the left side of a row stands to its bound
pub data Relation : Type 0 where
  AtMost : Relation
  Below : Relation
  Equals : Relation

-- whole multiples of names, which are numbers; a name may stand more than once
abbrev pub Parts : Type 0
Parts = List (ℕ × ℤ)

pub record Row : Type 0 where
  pub parts : Parts
  pub relation : Relation
  pub bound : ℤ

-- a row with its multiplier, which is positive unless the row is an equation
pub record Multiple : Type 0 where
  pub row : Row
  pub times : ℤ
  pub sign : (pos 0 <ℤ times) ⊎ (row.relation ≡ Equals)

-- ---- truth at values of the names
abbrev pub parts_value : (ℕ → ℚ) → Parts → ℚ
parts_value v [] = whole (pos 0)
parts_value v (p ∷ ps) = whole p.1 *ℚ v p.0 +ℚ parts_value v ps

abbrev pub Compares : Relation → ℚ → ℚ → Type 0
Compares AtMost a b = a ≤ℚ b
Compares Below a b = a <ℚ b
Compares Equals a b = a ≡ b

abbrev pub RowIsTrue : (ℕ → ℚ) → Row → Type 0
RowIsTrue v r = Compares r.relation (parts_value v r.parts) (whole r.bound)

abbrev pub AreTrue : (ℕ → ℚ) → List Multiple → Type 0
AreTrue v [] = Unit {0}
AreTrue v (m ∷ ms) = RowIsTrue v m.row × AreTrue v ms

-- ---- the combination, name by name
abbrev pub coefficient : ℕ → Parts → ℤ
coefficient n [] = pos 0
coefficient n (p ∷ ps) = (if nat_eq p.0 n then p.1 else pos 0) +ℤ coefficient n ps

abbrev pub sum_coefficient : ℕ → List Multiple → ℤ
sum_coefficient n [] = pos 0
sum_coefficient n (m ∷ ms) = (m.times *ℤ coefficient n m.row.parts) +ℤ sum_coefficient n ms

abbrev pub sum_bound : List Multiple → ℤ
sum_bound [] = pos 0
sum_bound (m ∷ ms) = (m.times *ℤ m.row.bound) +ℤ sum_bound ms

abbrev pub HasStrict : List Multiple → Type 0
HasStrict [] = ⊥
HasStrict (m ∷ ms) = (m.row.relation ≡ Below) ⊎ HasStrict ms

-- the left sides add to nothing, and the bounds to less than 0, or to 0 with a strict row among them
pub record AddsBelow (ms : List Multiple) : Type 0 where
  pub nothing : (n : ℕ) → sum_coefficient n ms ≡ pos 0
  pub bound : (sum_bound ms <ℤ pos 0) ⊎ ((sum_bound ms ≡ pos 0) × HasStrict ms)

abbrev pub NoCombination : Type 0
NoCombination = (ms : List Multiple) → AddsBelow ms → (v : ℕ → ℚ) → AreTrue v ms → ⊥
