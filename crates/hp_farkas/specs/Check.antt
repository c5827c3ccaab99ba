-- What the check of a combination answers: its form is tested first, and then sums are made in a fixed order.
use Rattle.std.specs.Prelude.{◌≡◌, List, [], ◌∷◌, ℕ, ℤ, pos, Bool, true, false, ◌&&◌, ◌||◌, Result, Ok, int_lt}
use Rattle.std.specs.Ordering.{int_eq}
use Rattle.hp_num.specs.declared.wide.Wide.{Wide}
use Rattle.hp_num.specs.Wide.{◌>>=◌}
use Rattle.hp_lit.specs.declared.literal.Rel.{Rel}
use Rattle.hp_lit.specs.declared.literal.Rel.TheVariants.{Le, Lt, Eq}
use Rattle.hp_lit.specs.declared.literal.Lit.{Lit}
use Rattle.hp_lit.specs.declared.proof.Share.{Share}
use Rattle.hp_lit.specs.Leaf.{Taken, AreTaken, IsRising}
use Rattle.hp_farkas.specs.Form.{IsCombination}
use Rattle.hp_farkas.specs.Names.{names_of}
use Rattle.hp_farkas.specs.Sums.{sum_from, bound_from}

-- whether the sum of each of the names is 0; a sum that is not 0 stops nothing
abbrev pub vanish : List Taken → List ℕ → Result Bool Wide
vanish ts [] = Ok true
vanish ts (n ∷ ns) = sum_from n (pos 0) ts >>= (λ sum. vanish ts ns >>= (λ rest. Ok (int_eq sum (pos 0) && rest)))

abbrev pub is_less : Rel → Bool
is_less Le = false
is_less Lt = true
is_less Eq = false

abbrev pub has_strict : List Taken → Bool
has_strict [] = false
has_strict (t ∷ ts) = is_less t.lit.rel || has_strict ts

-- the sum of bounds is below 0, or is 0 with a strict literal among those taken
abbrev pub is_refuted : List Taken → ℤ → Bool
is_refuted ts bound = int_lt bound (pos 0) || (int_eq bound (pos 0) && has_strict ts)

-- the names in their order, and then the bounds
abbrev pub answer_of : List Taken → Result Bool Wide
answer_of ts = vanish ts (names_of ts) >>= (λ nothing. bound_from (pos 0) ts >>= (λ bound. Ok (nothing && is_refuted ts bound)))

-- over a combination the answer is that of its sums, and shares of another form are bad without a sum
pub record IsChecked (path : List Lit) (shares : List Share) (answer : Result Bool Wide) : Type 0 where
  pub combination : (taken : List Taken) → AreTaken path shares taken → IsRising shares → answer ≡ answer_of taken
  pub other : (IsCombination path shares → ⊥) → answer ≡ Ok false
