-- Values of the names' sorts.
use Rattle.std.specs.Prelude.{◌≡◌, ℕ, List, [], ◌∷◌, pos, Some, slice_get, true}
use Rattle.hp_math.specs.Rational.{ℚ, is_whole, whole, ◌≤ℚ◌}
use Rattle.hp_tree.specs.declared.problem.Sort.{Sort}
use Rattle.hp_tree.specs.declared.problem.Sort.TheVariants.{Num, Idx, Ptr}
use Rattle.hp_lit.specs.Truth.{Values, name_value}

-- any fraction, a whole number, a whole number from 0
abbrev pub IsOfSort : Sort → ℚ → Type 0
IsOfSort Num x = Unit {0}
IsOfSort Idx x = is_whole x ≡ true
IsOfSort Ptr x = (is_whole x ≡ true) × (whole (pos 0) ≤ℚ x)

-- one value for each sort, and of it
abbrev pub AreOfSorts : List Sort → Values → Type 0
AreOfSorts [] [] = Unit {0}
AreOfSorts (s ∷ ss) (x ∷ xs) = IsOfSort s x × AreOfSorts ss xs
AreOfSorts _ _ = ⊥

-- the names that have these sorts have values of them; there may be more values
abbrev pub HaveSorts : List Sort → Values → Type 0
HaveSorts sorts v = (n : ℕ) (s : Sort) → slice_get sorts n ≡ Some s → IsOfSort s (name_value v n)
