-- Names in rising order: what a sort leaves without repeats, and that a search finds each.
use Rattle.std.proofs.Common.{◌≡◌, ℕ, zero, suc, ◌+◌, ◌-◌, ◌<◌, ◌≤◌, List, length, get_or, sym, subst, ◌∙◌, arith, Err}
use Rattle.std.specs.Prelude.{nat_eq}
use Rattle.std.specs.List.{Contains, dedup}
use Rattle.std.specs.List.Sorted.{IsBinarySearchResult, IsStrictlyIncreasing, IsPermutation, IsSorted}
use Rattle.std.specs.Ordering.{nat_cmp}
use Rattle.std.proofs.lemmas.Bool.{cases_lt}
use Rattle.std.proofs.Common.{inl, inr}
use Rattle.std.proofs.lemmas.Grind.{get_or_default_zero}
use Rattle.std.proofs.lemmas.List.Sorted.{searched, Contains-permutation, IsPermutation-sym, length_permutation}
use Rattle.std.proofs.lemmas.List.Kept.{Contains-dedup_nat, Contains-from_dedup}
use Rattle.std.proofs.lemmas.List.Elements.{All-contains_itself, All-weaker}
use Rattle.std.proofs.lemmas.Map.Keys.{IsStrictlyIncreasing-dedup}
use Rattle.hp_nodes.specs.Nodes.{AreNames}

rises_by : (xs : List ℕ) → IsStrictlyIncreasing xs → (i gap : ℕ) → i + gap < length xs → get_or xs i 0 ≤ get_or xs (i + gap) 0
rises_by xs up i zero h =
    let same : i + 0 ≡ i = omega arith in
    subst (λ j. get_or xs i 0 ≤ get_or xs j 0) (sym same) (omega arith)
rises_by xs up i (suc gap) h =
    let same : i + suc gap ≡ (i + gap) + 1 = omega arith in
    let below = rises_by xs up i gap (omega arith) in
    let next = up (i + gap) (omega arith) in
    subst (λ j. get_or xs i 0 ≤ get_or xs j 0) (sym same) (omega arith)

rises : (xs : List ℕ) → IsStrictlyIncreasing xs → (i j : ℕ) → i ≤ j → j < length xs → get_or xs i 0 ≤ get_or xs j 0
rises xs up i j h l =
    let same : i + (j - i) ≡ j = omega arith in
    subst (λ k. get_or xs i 0 ≤ get_or xs k 0) same (rises_by xs up i (j - i) (omega arith))

-- a search for a name that is there does not miss it
pub found : (xs : List ℕ) (x i : ℕ) → IsStrictlyIncreasing xs → Contains xs x → IsBinarySearchResult (λ y. nat_cmp y x) xs (Err i) → ⊥
found xs x i up c r =
    let s = searched xs x (Err i) r (rises xs up) in
    let k = c.0 in
    let k_in = c.1 in
    let is : get_or xs k 0 ≡ x = sym (get_or_default_zero xs k x k_in) ∙ c.2 in
    elim (cases_lt k i) [
      | inl l ↦ (let b = s.1 k l in omega arith)
      | inr l ↦ (let b = s.2 k l k_in in omega arith)
    ]

pub names_are : (all sorted : List ℕ) → IsPermutation all sorted → IsSorted nat_cmp sorted → length (dedup nat_eq sorted) ≤ length sorted → AreNames all (dedup nat_eq sorted)
names_are all sorted p s few = record {
  rising = IsStrictlyIncreasing-dedup sorted s;
  all = All-weaker _ _ (λ x c. Contains-dedup_nat sorted x (Contains-permutation all sorted x p c)) all (All-contains_itself all);
  only = All-weaker _ _ (λ x c. Contains-permutation sorted all x (IsPermutation-sym all sorted p) (Contains-from_dedup nat_eq sorted x c)) (dedup nat_eq sorted)
      (All-contains_itself (dedup nat_eq sorted));
  few = (let same = length_permutation all sorted p in omega arith);
}
