-- The fractions are an ordered field with the whole numbers in it, between any two of which lies a third.
use Rattle.std.specs.Prelude.{◌≡◌, ◌≢◌, ◌⊎◌, ◌↔◌, ℕ, ◌<◌, List, map, true, ℤ, pos, neg_ℤ, ◌+ℤ◌, ◌*ℤ◌, ◌≤ℤ◌, ◌<ℤ◌}
use Rattle.hp_math.specs.Rational.{ℚ, ratio, whole, ◌+ℚ◌, ◌-ℚ◌, ◌*ℚ◌, ◌/ℚ◌, neg_ℚ, recip, ◌≤ℚ◌, ◌<ℚ◌, lt_ℚ, le_ℚ, eq_ℚ}

pub record SumLaws : Type 0 where
  pub comm : (x y : ℚ) → x +ℚ y ≡ y +ℚ x
  pub assoc : (x y z : ℚ) → (x +ℚ y) +ℚ z ≡ x +ℚ (y +ℚ z)
  pub zero : (x : ℚ) → x +ℚ whole (pos 0) ≡ x
  pub opposite : (x : ℚ) → x -ℚ x ≡ whole (pos 0)

pub record ProductLaws : Type 0 where
  pub comm : (x y : ℚ) → x *ℚ y ≡ y *ℚ x
  pub assoc : (x y z : ℚ) → (x *ℚ y) *ℚ z ≡ x *ℚ (y *ℚ z)
  pub one : (x : ℚ) → x *ℚ whole (pos 1) ≡ x
  pub sum : (x y z : ℚ) → x *ℚ (y +ℚ z) ≡ x *ℚ y +ℚ x *ℚ z
  pub reciprocal : (x : ℚ) → x ≢ whole (pos 0) → x *ℚ recip x ≡ whole (pos 1)
  pub quotient : (x y : ℚ) → y ≢ whole (pos 0) → (x /ℚ y) *ℚ y ≡ x

pub record OrderLaws : Type 0 where
  pub refl : (x : ℚ) → x ≤ℚ x
  pub trans : (x y z : ℚ) → x ≤ℚ y → y ≤ℚ z → x ≤ℚ z
  pub antisym : (x y : ℚ) → x ≤ℚ y → y ≤ℚ x → x ≡ y
  pub strict : (x y : ℚ) → x <ℚ y ↔ (y ≤ℚ x → ⊥)
  pub total : (x y : ℚ) → (x ≤ℚ y) ⊎ (y <ℚ x)
  pub sum : (x y z : ℚ) → x ≤ℚ y → (x +ℚ z) ≤ℚ (y +ℚ z)
  pub sum_strict : (x y z : ℚ) → x <ℚ y → (x +ℚ z) <ℚ (y +ℚ z)
  pub product : (x y z : ℚ) → x ≤ℚ y → whole (pos 0) ≤ℚ z → (x *ℚ z) ≤ℚ (y *ℚ z)
  pub product_strict : (x y z : ℚ) → x <ℚ y → whole (pos 0) <ℚ z → (x *ℚ z) <ℚ (y *ℚ z)

pub record IsOrderedField : Type 0 where
  pub sums : SumLaws
  pub products : ProductLaws
  pub order : OrderLaws

-- the whole numbers are among the fractions, and each fraction is a quotient of two of them
pub record HasWholeNumbers : Type 0 where
  pub same : (m n : ℤ) → whole m ≡ whole n ↔ m ≡ n
  pub at_most : (m n : ℤ) → whole m ≤ℚ whole n ↔ m ≤ℤ n
  pub below : (m n : ℤ) → whole m <ℚ whole n ↔ m <ℤ n
  pub sum : (m n : ℤ) → whole m +ℚ whole n ≡ whole (m +ℤ n)
  pub opposite : (n : ℤ) → neg_ℚ (whole n) ≡ whole (neg_ℤ n)
  pub product : (m n : ℤ) → whole m *ℚ whole n ≡ whole (m *ℤ n)
  pub quotient : (n : ℤ) (d : ℕ) → 0 < d → ratio n d ≡ whole n /ℚ whole (pos d)

abbrev pub IsDense : Type 0
IsDense = (x y : ℚ) → x <ℚ y → (z : ℚ) × (x <ℚ z) × (z <ℚ y)

-- the numerators of a list over one denominator
pub record OverOne (xs : List ℚ) : Type 0 where
  pub den : ℕ
  pub positive : 0 < den
  pub nums : List ℤ
  pub same : map (λ n. ratio n den) nums ≡ xs

abbrev pub HaveCommonDenominators : Type 0
HaveCommonDenominators = (xs : List ℚ) → OverOne xs

pub record TestsDecide : Type 0 where
  pub le : (x y : ℚ) → le_ℚ x y ≡ true ↔ x ≤ℚ y
  pub lt : (x y : ℚ) → lt_ℚ x y ≡ true ↔ x <ℚ y
  pub eq : (x y : ℚ) → eq_ℚ x y ≡ true ↔ x ≡ y
