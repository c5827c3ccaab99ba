-- Terms that are found again by their keys.
use Rattle.std.proofs.Common.{◌≡◌, ℕ, zero, suc, ℤ, ◌<◌, ◌≤◌, ◌||◌, Bool, true, false, List, [], ◌∷◌, ◌++◌, length, get_or, map, Option, Some, None, sym, ap, subst, ◌∙◌, arith}
use Rattle.std.specs.Prelude.{position, if◌then◌else◌}
use Rattle.std.specs.Bool.{Decides}
use Rattle.std.specs.List.{list_any, position_or_len}
use Rattle.std.proofs.Math.Bool.{or-true}
use Rattle.std.proofs.lemmas.Bool.{or_parts}
use Rattle.std.proofs.lemmas.Bool.Decides.{Decides-like}
use Rattle.std.proofs.lemmas.List.Quantifiers.{position-Some}
use Rattle.std.proofs.lemmas.List.Sums.{position_or_len_is}
use Rattle.hp_tree.specs.declared.term.Term.{Term}
use Rattle.hp_defs.specs.First.{IsFirst}
use Rattle.hp_defs.proofs.First.{first_by_test, no_test, same_first}
use Rattle.hp_norm.specs.TermKeys.{term_key}
use Rattle.hp_norm.specs.Trees.{noted, same_term}
use Rattle.hp_norm.proofs.SameTrees.{same_terms_are_equal}
use Rattle.hp_norm.proofs.TermKeys.{keys_inject}

-- ---- tests
module _ {X : Type 0} (test : X → Bool) where
  one_passes : (xs : List X) (k : ℕ) (d : X) → k < length xs → test (get_or xs k d) ≡ true → list_any test xs ≡ true
  one_passes [] k d h e = absurd (omega arith)
  one_passes (x ∷ xs) zero d h e = ap (λ (b : Bool). b || list_any test xs) e
  one_passes (x ∷ xs) (suc k) d h e = ap (λ (b : Bool). test x || b) (one_passes xs k d (omega arith) e) ∙ or-true (test x)

  fails_at : (xs : List X) (k : ℕ) (d : X) → list_any test xs ≡ false → k < length xs → test (get_or xs k d) ≡ false
  fails_at [] k d h less = absurd (omega arith)
  fails_at (x ∷ xs) zero d h less = (or_parts (test x) (list_any test xs) h).0
  fails_at (x ∷ xs) (suc k) d h less = fails_at xs k d (or_parts (test x) (list_any test xs) h).1 (omega arith)

  none_passes : (xs : List X) (d : X) → list_any test xs ≡ false → position_or_len test xs ≡ length xs
  none_passes xs d h = position_or_len_is test xs (length xs) d (omega arith) (λ k less. fails_at xs k d h less) (λ less. absurd (omega arith))

  -- the place that was found is the first that passes
  pub place_found : (xs : List X) (at : ℕ) (d : X) → Some at ≡ position test xs → (at ≡ position_or_len test xs) × (list_any test xs ≡ true)
  place_found xs at d e =
      let h = position-Some test xs at d (sym e) in
      let within : at ≤ length xs = omega (arith, h.0) in
      (sym (position_or_len_is test xs at d within h.2 (λ less. h.1)), one_passes xs at d h.0 h.1)

-- ---- terms
-- the test of terms tells terms with equal keys
tells : (s t : Term) → Decides (same_term s t) (term_key s ≡ term_key t)
tells s t = let h = same_terms_are_equal s t in Decides-like (same_term s t) (λ (e : s ≡ t). ap term_key e) (keys_inject s t) (h.0, h.1)

-- the place of a term is that of its key
pub place_by_first : (key : List ℤ) (keys : List (List ℤ)) (terms : List Term) (term : Term) (r : Option ℕ) → keys ≡ map term_key terms → key ≡ term_key term → IsFirst key keys r
    → r ≡ position (same_term term) terms
place_by_first key keys terms term r ks k h =
    same_first (term_key term) (map term_key terms) r (position (same_term term) terms)
    (subst (λ (x : List ℤ). IsFirst x (map term_key terms) r) k (subst (λ (xs : List (List ℤ)). IsFirst key xs r) ks h))
    (first_by_test (term_key term) term_key (same_term term) (tells term) terms)

-- and a term that is nowhere has a key that is nowhere
pub nowhere : (key : List ℤ) (keys : List (List ℤ)) (terms : List Term) (term : Term) → keys ≡ map term_key terms → key ≡ term_key term → position (same_term term) terms ≡ None → IsFirst key keys None
nowhere key keys terms term ks k e =
    let first = first_by_test (term_key term) term_key (same_term term) (tells term) terms in
    let none = subst (λ (r : Option ℕ). IsFirst (term_key term) (map term_key terms) r) e first in
    subst (λ (xs : List (List ℤ)). IsFirst key xs None) (sym ks) (subst (λ (x : List ℤ). IsFirst x (map term_key terms) None) (sym k) none)

module _ (terms : List Term) (term : Term) where
  none_same : None ≡ position (same_term term) terms → list_any (same_term term) terms ≡ false
  none_same e =
      no_test (term_key term) term_key (same_term term) (tells term) terms
      (subst (λ (r : Option ℕ). IsFirst (term_key term) (map term_key terms) r) (sym e) (first_by_test (term_key term) term_key (same_term term) (tells term) terms))

  pub not_found : None ≡ position (same_term term) terms → length terms ≡ position_or_len (same_term term) terms
  not_found e = sym (none_passes (same_term term) terms term (none_same e))

  -- a term that is there is not noted again, and another one is, at the end
  pub noted_again : (at : ℕ) → Some at ≡ position (same_term term) terms → terms ≡ noted term terms
  noted_again at e = sym (ap (λ (b : Bool). if b then terms else terms ++ term ∷ []) (place_found (same_term term) terms at term e).1)

  pub noted_once : None ≡ position (same_term term) terms → terms ++ term ∷ [] ≡ noted term terms
  noted_once e = sym (ap (λ (b : Bool). if b then terms else terms ++ term ∷ []) (none_same e))
