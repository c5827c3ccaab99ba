-- What the answer over a combination says.
use Rattle.std.proofs.Common.{◌≡◌, ℕ, ◌⊎◌, inl, inr, ℤ, pos, ◌+ℤ◌, ◌<ℤ◌, refl, sym, ◌∙◌, ap, subst, arith, List, [], ◌∷◌, Result, Ok, Bool, true, false, ◌&&◌, ◌||◌}
use Rattle.std.proofs.lemmas.Bool.{and_parts, or_cases, and_from}
use Rattle.std.proofs.lemmas.Int.{ints}
use Rattle.std.specs.Prelude.{int_lt}
use Rattle.std.specs.Ordering.{int_eq}
use Rattle.hp_num.specs.declared.wide.Wide.{Wide}
use Rattle.hp_num.specs.Wide.{◌>>=◌}
use Rattle.hp_lit.specs.declared.literal.Rel.{Rel}
use Rattle.hp_lit.specs.declared.literal.Rel.TheVariants.{Le, Lt, Eq}
use Rattle.hp_lit.specs.declared.literal.Lit.{Lit}
use Rattle.hp_lit.specs.declared.proof.Share.{Share}
use Rattle.hp_lit.specs.Leaf.{Taken, AreTaken, sum_coefficient, sum_bound, HasStrict, IsValidNum}
use Rattle.hp_farkas.specs.Form.{IsCombination}
use Rattle.hp_farkas.specs.Names.{IsIn, names_of}
use Rattle.hp_farkas.specs.Sums.{sum_from, bound_from}
use Rattle.hp_farkas.specs.Check.{vanish, is_less, has_strict, is_refuted, answer_of, IsChecked}
use Rattle.hp_farkas.proofs.Names.{in_names, is_in}
use Rattle.hp_num.proofs.Given.{came}
use Rattle.hp_farkas.proofs.Exact.{sum_exact, no_name, bound_exact}

is_zero : (a : ℤ) → int_eq a (pos 0) ≡ true → a ≡ pos 0
is_zero a h = grind (arith, ints)

zero_is : (a : ℤ) → a ≡ pos 0 → int_eq a (pos 0) ≡ true
zero_is a h = grind (arith, ints)

is_below : (a : ℤ) → int_lt a (pos 0) ≡ true → a <ℤ pos 0
is_below a h = grind (arith, ints)

below_is : (a : ℤ) → a <ℤ pos 0 → int_lt a (pos 0) ≡ true
below_is a h = grind (arith, ints)

Ok_same : {A : Type 0} (x y : A) → ◌≡◌ {A = Result A Wide} (Ok x) (Ok y) → x ≡ y
Ok_same x y h = cc

from_zero : (r s : ℤ) → r ≡ pos 0 +ℤ s → r ≡ s
from_zero r s h = omega (arith, ints)

-- ---- the names
vanish_true : (ts : List Taken) (ns : List ℕ) → vanish ts ns ≡ Ok true → (n : ℕ) → IsIn n ns → sum_coefficient n ts ≡ pos 0
vanish_true ts [] h n q = absurd q
vanish_true ts (m ∷ ms) h n q =
    let w = came (sum_from m (pos 0) ts) (λ sum. vanish ts ms >>= (λ rest. Ok (int_eq sum (pos 0) && rest))) true h in
    let v = came (vanish ts ms) (λ rest. Ok (int_eq w.value (pos 0) && rest)) true w.rest in
    let b = and_parts (int_eq w.value (pos 0)) v.value (Ok_same (int_eq w.value (pos 0) && v.value) true v.rest) in
    let z : sum_coefficient m ts ≡ pos 0 = sym (from_zero w.value (sum_coefficient m ts) (sum_exact m (pos 0) w.value ts w.first)) ∙ is_zero w.value b.0 in
    go z (λ j. vanish_true ts ms (v.first ∙ ap (λ x. Ok x) b.1) n j) q
  where
    go : sum_coefficient m ts ≡ pos 0 → (IsIn n ms → sum_coefficient n ts ≡ pos 0) → (m ≡ n) ⊎ IsIn n ms → sum_coefficient n ts ≡ pos 0
    go z f (inl e) = subst (λ k. sum_coefficient k ts ≡ pos 0) e z
    go z f (inr q) = f q

vanish_same : (ts : List Taken) (ns : List ℕ) (b : Bool) → ((n : ℕ) → sum_coefficient n ts ≡ pos 0) → vanish ts ns ≡ Ok b → b ≡ true
vanish_same ts [] b z h = cc
vanish_same ts (m ∷ ms) b z h =
    let w = came (sum_from m (pos 0) ts) (λ sum. vanish ts ms >>= (λ rest. Ok (int_eq sum (pos 0) && rest))) b h in
    let v = came (vanish ts ms) (λ rest. Ok (int_eq w.value (pos 0) && rest)) b w.rest in
    let e : w.value ≡ pos 0 = from_zero w.value (sum_coefficient m ts) (sum_exact m (pos 0) w.value ts w.first) ∙ z m in
    sym (Ok_same (int_eq w.value (pos 0) && v.value) b v.rest) ∙ and_from (int_eq w.value (pos 0)) v.value (zero_is w.value e) (vanish_same ts ms v.value z v.first)

nothing_of : (ts : List Taken) → vanish ts (names_of ts) ≡ Ok true → (n : ℕ) → sum_coefficient n ts ≡ pos 0
nothing_of ts h n = go (is_in n (names_of ts))
  where
    go : IsIn n (names_of ts) ⊎ (IsIn n (names_of ts) → ⊥) → sum_coefficient n ts ≡ pos 0
    go (inl q) = vanish_true ts (names_of ts) h n q
    go (inr q) = no_name n ts (λ o. q (in_names n ts o))

-- ---- strict literals
less_of : (r : Rel) → is_less r ≡ true → r ≡ Lt
less_of Le h = cc
less_of Lt h = refl
less_of Eq h = cc

strict_of : (ts : List Taken) → has_strict ts ≡ true → HasStrict ts
strict_of [] h = cc
strict_of (t ∷ ts) h = go (λ e. strict_of ts e) (or_cases (is_less t.lit.rel) (has_strict ts) h)
  where
    go : (has_strict ts ≡ true → HasStrict ts) → (is_less t.lit.rel ≡ true) ⊎ (has_strict ts ≡ true) → (t.lit.rel ≡ Lt) ⊎ HasStrict ts
    go f (inl e) = inl (less_of t.lit.rel e)
    go f (inr e) = inr (f e)

or_left : (x y : Bool) → x ≡ true → (x || y) ≡ true
or_left true y h = refl
or_left false y h = cc

or_right : (x y : Bool) → y ≡ true → (x || y) ≡ true
or_right true y h = refl
or_right false y h = h

of_strict : (ts : List Taken) → HasStrict ts → has_strict ts ≡ true
of_strict [] h = absurd h
of_strict (t ∷ ts) (inl e) = or_left (is_less t.lit.rel) (has_strict ts) (ap is_less e)
of_strict (t ∷ ts) (inr h) = or_right (is_less t.lit.rel) (has_strict ts) (of_strict ts h)

-- ---- the bounds
abbrev pub IsRefuted : List Taken → ℤ → Type 0
IsRefuted ts s = (s <ℤ pos 0) ⊎ ((s ≡ pos 0) × HasStrict ts)

refuted_of : (ts : List Taken) (s : ℤ) → is_refuted ts s ≡ true → IsRefuted ts s
refuted_of ts s h = go (or_cases (int_lt s (pos 0)) (int_eq s (pos 0) && has_strict ts) h)
  where
    go : (int_lt s (pos 0) ≡ true) ⊎ ((int_eq s (pos 0) && has_strict ts) ≡ true) → IsRefuted ts s
    go (inl e) = inl (is_below s e)
    go (inr e) = let b = and_parts (int_eq s (pos 0)) (has_strict ts) e in inr (is_zero s b.0, strict_of ts b.1)

of_refuted : (ts : List Taken) (s : ℤ) → IsRefuted ts s → is_refuted ts s ≡ true
of_refuted ts s (inl l) = or_left (int_lt s (pos 0)) (int_eq s (pos 0) && has_strict ts) (below_is s l)
of_refuted ts s (inr b) = or_right (int_lt s (pos 0)) (int_eq s (pos 0) && has_strict ts) (and_from (int_eq s (pos 0)) (has_strict ts) (zero_is s b.0) (of_strict ts b.1))

-- ---- the answer
pub record Answered (ts : List Taken) (answer : Bool) : Type 0 where
  pub nothing : Bool
  pub bound : ℤ
  pub vanishes : vanish ts (names_of ts) ≡ Ok nothing
  pub is_bound : bound ≡ sum_bound ts
  pub is : (nothing && is_refuted ts bound) ≡ answer

answered : (ts : List Taken) (answer : Bool) → answer_of ts ≡ Ok answer → Answered ts answer
answered ts answer h =
    let w = came (vanish ts (names_of ts)) (λ nothing. bound_from (pos 0) ts >>= (λ bound. Ok (nothing && is_refuted ts bound))) answer h in
    let v = came (bound_from (pos 0) ts) (λ bound. Ok (w.value && is_refuted ts bound)) answer w.rest in
    record {
      nothing = w.value;
      bound = v.value;
      vanishes = w.first;
      is_bound = from_zero v.value (sum_bound ts) (bound_exact (pos 0) v.value ts v.first);
      is = Ok_same (w.value && is_refuted ts v.value) answer v.rest;
    }

pub valid_of : (path : List Lit) (shares : List Share) (answer : Result Bool Wide) → IsCombination path shares → IsChecked path shares answer → answer ≡ Ok true → IsValidNum path shares
valid_of path shares answer c k e =
    let ts = c.taken in
    let a = answered ts true (sym (k.combination ts c.are_taken c.rising) ∙ e) in
    let b = and_parts a.nothing (is_refuted ts a.bound) a.is in
    record {
      taken = ts;
      are_taken = c.are_taken;
      rising = c.rising;
      nothing = nothing_of ts (a.vanishes ∙ ap (λ x. Ok x) b.0);
      bound = subst (IsRefuted ts) a.is_bound (refuted_of ts a.bound b.1);
    }

pub invalid_of : (path : List Lit) (shares : List Share) (answer : Result Bool Wide) → IsChecked path shares answer → answer ≡ Ok false → IsValidNum path shares → ⊥
invalid_of path shares answer k e v =
    let ts = v.taken in
    let a = answered ts false (sym (k.combination ts v.are_taken v.rising) ∙ e) in
    let n = vanish_same ts (names_of ts) a.nothing v.nothing a.vanishes in
    let r = of_refuted ts a.bound (subst (IsRefuted ts) (sym a.is_bound) v.bound) in
    let t : false ≡ true = sym a.is ∙ and_from a.nothing (is_refuted ts a.bound) n r in
    cc

pub checked_of : (path : List Lit) (shares : List Share) (answer : Result Bool Wide) → IsCombination path shares → ((taken : List Taken) → AreTaken path shares taken → answer ≡ answer_of taken) → IsChecked path shares answer
checked_of path shares answer c e = record { combination = λ taken a _. e taken a; other = λ no. absurd (no c) }
