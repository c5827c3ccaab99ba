-- What stands at the place of a name, by one name at a time.
use Rattle.std.proofs.Common.{◌≡◌, ℕ, suc, ◌+◌, List, [], ◌∷◌, Bool, true, false, not, cond, length, nat_lt, Option, Some, None, refl, ap, ◌∙◌, arith}
use Rattle.std.specs.Prelude.{option_and_then, option_map, position, slice_get}
use Rattle.std.specs.List.{prefix_len}
use Rattle.std.specs.Str.{bytes_eq}
use Rattle.std.proofs.lemmas.Bool.{le-ltb, lt-ltb, ltb-false, ltb-true, or_parts}
use Rattle.hp_sorts.specs.Numbered.{Name, is_among, named}

-- ---- places
one_on : (k n : ℕ) → cond (nat_lt (1 + k) (suc n)) (Some (1 + k)) None ≡ option_map suc (cond (nat_lt k n) (Some k) None)
one_on k n = by (nat_lt k n) refl
  where
    by : (b : Bool) → nat_lt k n ≡ b → cond (nat_lt (1 + k) (suc n)) (Some (1 + k)) None ≡ option_map suc (cond b (Some k) None)
    by true e =
        let less = ltb-true k n e in
        let same : 1 + k ≡ suc k = omega arith in ap (λ b. cond b (Some (1 + k)) None) (lt-ltb (1 + k) (suc n) (omega arith)) ∙ ap Some same
    by false e = let most = ltb-false k n e in ap (λ b. cond b (Some (1 + k)) None) (le-ltb (1 + k) (suc n) (omega arith))

here_or_on : (b : Bool) (k n : ℕ)
    → cond (nat_lt (cond (not b) (1 + k) 0) (suc n)) (Some (cond (not b) (1 + k) 0)) None ≡ cond b (Some 0) (option_map suc (cond (nat_lt k n) (Some k) None))
here_or_on true k n = ap (λ b. cond b (Some 0) None) (lt-ltb 0 (suc n) (omega arith))
here_or_on false k n = one_on k n

position-cons : {X : Type 0} (p : X → Bool) (x : X) (xs : List X) → position p (x ∷ xs) ≡ cond (p x) (Some 0) (option_map suc (position p xs))
position-cons p x xs = here_or_on (p x) (prefix_len (λ y. not (p y)) xs) (length xs)

-- ---- what stands there
next_place : {X : Type 0} (x : X) (xs : List X) (b : Bool) (at : Option ℕ)
    → option_and_then (λ place. slice_get (x ∷ xs) place) (cond b (Some 0) (option_map suc at)) ≡ cond b (Some x) (option_and_then (λ place. slice_get xs place) at)
next_place x xs true at = refl
next_place x xs false None = refl
next_place x xs false (Some place) = refl

pub named-cons : {X : Type 0} (name first : Name) (names : List Name) (x : X) (xs : List X)
    → named name (first ∷ names) (x ∷ xs) ≡ cond (bytes_eq name first) (Some x) (named name names xs)
named-cons name first names x xs =
    ap (option_and_then (λ place. slice_get (x ∷ xs) place)) (position-cons (bytes_eq name) first names) ∙ next_place x xs (bytes_eq name first) (position (bytes_eq name) names)

pub named_here : {X : Type 0} (name first : Name) (names : List Name) (x : X) (xs : List X) → bytes_eq name first ≡ true → named name (first ∷ names) (x ∷ xs) ≡ Some x
named_here name first names x xs e = named-cons name first names x xs ∙ ap (λ b. cond b (Some x) (named name names xs)) e

pub named_on : {X : Type 0} (name first : Name) (names : List Name) (x : X) (xs : List X) → bytes_eq name first ≡ false → named name (first ∷ names) (x ∷ xs) ≡ named name names xs
named_on name first names x xs e = named-cons name first names x xs ∙ ap (λ b. cond b (Some x) (named name names xs)) e

-- a name that is not there has no place
no_place : (name : Name) (names : List Name) → is_among name names ≡ false → position (bytes_eq name) names ≡ None
no_place name [] e = refl
no_place name (first ∷ names) e =
    let parts = or_parts (bytes_eq name first) (is_among name names) e in
    position-cons (bytes_eq name) first names ∙ ap (λ b. cond b (Some 0) (option_map suc (position (bytes_eq name) names))) parts.0
    ∙ ap (option_map suc) (no_place name names parts.1)

pub named_absent : {X : Type 0} (name : Name) (names : List Name) (xs : List X) → is_among name names ≡ false → named name names xs ≡ None
named_absent name names xs e = ap (option_and_then (λ place. slice_get xs place)) (no_place name names e)
