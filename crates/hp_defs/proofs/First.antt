-- First places in lists, by tests that tell an element.
use Rattle.std.proofs.Common.{◌≡◌, ℕ, suc, zero, ◌<◌, ◌||◌, Bool, true, false, cond, List, [], ◌∷◌, length, map, Option, Some, None, slice_get, refl, sym, ap, ◌∙◌, true≢false, arith, inl, inr}
use Rattle.std.specs.Prelude.{position}
use Rattle.std.specs.List.{position_or_len, list_any}
use Rattle.std.specs.Bool.{Decides}
use Rattle.std.proofs.Math.Dec.{ltb}
use Rattle.std.proofs.lemmas.Bool.{cases_lt}
use Rattle.std.proofs.lemmas.Bool.Decides.{Decides-ltb}
use Rattle.std.proofs.lemmas.List.Sums.{fails_before_first, passes_at_first}
use Rattle.std.proofs.lemmas.Option.{slice_get-map, slice_get_within, slice_get_cases, get_or_from_slice_get}
use Rattle.hp_defs.specs.First.{IsFirst}

-- two first places of one element are the same
pub same_first : {X : Type 0} (x : X) (xs : List X) (r s : Option ℕ) → IsFirst x xs r → IsFirst x xs s → r ≡ s
same_first x xs None None a b = refl
same_first x xs None (Some k) a b = absurd (a k b.0)
same_first x xs (Some k) None a b = absurd (b k a.0)
same_first x xs (Some j) (Some k) a b = let e : j ≡ k = omega (arith, a.1 k b.0, b.1 j a.0) in ap Some e

some_same : {X : Type 0} (x y : X) → Some x ≡ Some y → x ≡ y
some_same x y e = cc

not_none : {X : Type 0} (x : X) → None ≡ Some x → ⊥
not_none x e = absurd (cc)

-- an element of a mapped list comes from one of the list
pub place_of : {X Y : Type 0} (f : Y → X) (x : X) (ys : List Y) (k : ℕ) → slice_get (map f ys) k ≡ Some x → (y : Y) × (slice_get ys k ≡ Some y) × (f y ≡ x)
place_of f x [] k h = absurd (not_none x h)
place_of f x (y ∷ ys) zero h = (y, refl, some_same (f y) x h)
place_of f x (y ∷ ys) (suc k) h = place_of f x ys k h

module _ {X Y : Type 0} (x : X) (f : Y → X) (test : Y → Bool) (tells : (y : Y) → Decides (test y) (x ≡ f y)) where
  before : (ys : List Y) (k : ℕ) → slice_get (map f ys) k ≡ Some x → k < position_or_len test ys → ⊥
  before ys k h l =
      let w = place_of f x ys k h in
      let no = fails_before_first test ys k w.0 l in
      let at = get_or_from_slice_get ys k w.0 w.0 w.1 in
      let yes = (tells w.0).1 (sym w.2) in
      true≢false (sym yes ∙ ap test (sym at) ∙ no)

  -- the place that a test finds is the first
  pub first_by_test : (ys : List Y) → IsFirst x (map f ys) (position test ys)
  first_by_test ys =
      let p = position_or_len test ys in
      (elim (ltb p (length ys)) as (λ b. ltb p (length ys) ≡ b → IsFirst x (map f ys) (cond b (Some p) None)) [
        | true ↦ λ t. (elim (slice_get_cases ys p).1 [
          | inl w ↦ (
            let there : test w.0 ≡ true = ap test (sym w.3) ∙ passes_at_first test ys w.0 w.1 in
                slice_get-map f ys p ∙ ap (λ o. elim o as (λ _. Option X) [ None ↦ None | Some y ↦ Some (f y) ]) w.2 ∙ ap Some (sym ((tells w.0).0 there)),
            λ j h. elim (cases_lt j p) [ inl l ↦ absurd (before ys j h l) | inr l ↦ l ],
          )
          | inr w ↦ absurd (omega (arith, w.0, (Decides-ltb p (length ys)).0 t))
        ])
        | false ↦ λ t k h.
            let w = place_of f x ys k h in
            before ys k h (elim (cases_lt k p) [
              | inl l ↦ l
              | inr l ↦ (let past = (Decides-ltb p (length ys)).1 in let within = slice_get_within ys k w.0 w.1 in absurd (true≢false (sym (past (omega (arith, l, within))) ∙ t)))
            ])
      ]) refl

  -- no test passes where the element is nowhere
  pub no_test : (ys : List Y) → IsFirst x (map f ys) None → list_any test ys ≡ false
  no_test [] h = refl
  no_test (y ∷ ys) h =
      (elim (test y) as (λ b. test y ≡ b → (b || list_any test ys) ≡ false) [
        | true ↦ λ t. absurd (h 0 (ap Some (sym ((tells y).0 t))))
        | false ↦ λ t. no_test ys (λ k. h (suc k))
      ]) refl
