-- A combination of literals over fractions that adds to nothing below 0: the evidence against them.
use Rattle.std.specs.Prelude.{◌≡◌, ℕ, ◌<◌, ◌^◌, List, [], ◌∷◌, ◌⊎◌, ℤ, pos, ◌+ℤ◌, ◌*ℤ◌, ◌<ℤ◌, unsigned_abs, nat_eq, if◌then◌else◌}
use Rattle.std.specs.List.{All}
use Rattle.hp_lit.specs.declared.literal.Rel.TheVariants.{Lt, Eq}
use Rattle.hp_lit.specs.declared.literal.Part.{Part}
use Rattle.hp_lit.specs.declared.literal.NumLit.{NumLit}
use Rattle.hp_lit.specs.declared.literal.Lit.{Lit}
use Rattle.hp_lit.specs.declared.literal.Lit.TheVariants.{Num}
use Rattle.hp_lit.specs.declared.proof.Share.{Share}
use Rattle.hp_lit.specs.Truth.{Values, IsTrueAt}
use Rattle.hp_lit.specs.Cycle.{IsLit}

-- the coefficient of a name
abbrev pub coefficient : ℕ → List Part → ℤ
coefficient n [] = pos 0
coefficient n (p ∷ ps) = (if nat_eq p.name.0 n then p.coef else pos 0) +ℤ coefficient n ps

-- a num literal with its multiplier, which has a magnitude of at most 2^127 - 1, and is positive unless the literal is an
-- equality
pub record Taken : Type 0 where
  pub lit : NumLit
  pub times : ℤ
  pub narrow : unsigned_abs times < 2 ^ 127
  pub sign : (pos 0 <ℤ times) ⊎ (lit.rel ≡ Eq)

abbrev pub IsTaken : List Lit → Share → Taken → Type 0
IsTaken path s t = IsLit path s.lit (Num t.lit) × (t.times ≡ s.times) × (s.times ≡ pos 0 → ⊥)

abbrev pub AreTaken : List Lit → List Share → List Taken → Type 0
AreTaken path [] [] = Unit {0}
AreTaken path (s ∷ ss) (t ∷ ts) = IsTaken path s t × AreTaken path ss ts
AreTaken path _ _ = ⊥

abbrev pub IsRising : List Share → Type 0
IsRising [] = Unit {0}
IsRising (s ∷ []) = Unit {0}
IsRising (s ∷ t ∷ ss) = (s.lit < t.lit) × IsRising (t ∷ ss)

abbrev pub sum_coefficient : ℕ → List Taken → ℤ
sum_coefficient n [] = pos 0
sum_coefficient n (t ∷ ts) = (t.times *ℤ coefficient n t.lit.parts) +ℤ sum_coefficient n ts

abbrev pub sum_bound : List Taken → ℤ
sum_bound [] = pos 0
sum_bound (t ∷ ts) = (t.times *ℤ t.lit.bound) +ℤ sum_bound ts

abbrev pub HasStrict : List Taken → Type 0
HasStrict [] = ⊥
HasStrict (t ∷ ts) = (t.lit.rel ≡ Lt) ⊎ HasStrict ts

pub record IsValidNum (path : List Lit) (shares : List Share) : Type 0 where
  pub taken : List Taken
  pub are_taken : AreTaken path shares taken
  pub rising : IsRising shares
  pub nothing : (n : ℕ) → sum_coefficient n taken ≡ pos 0
  pub bound : (sum_bound taken <ℤ pos 0) ⊎ ((sum_bound taken ≡ pos 0) × HasStrict taken)

abbrev pub NoNumLeaf : Type 0
NoNumLeaf = (path : List Lit) (shares : List Share) → IsValidNum path shares → (v : Values) → All (IsTrueAt v) path → ⊥
