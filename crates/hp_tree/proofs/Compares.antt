-- The tests of two fractions, and of relations that are to be true or false.
use Rattle.std.proofs.Common.{◌≡◌, ◌↔◌, ◌⊎◌, Bool, true, false, not, ◌&&◌, nat_eq, refl, sym, ap, subst, ◌∙◌, inl, inr}
use Rattle.std.specs.Ordering.{int_eq}
use Rattle.std.proofs.lemmas.Bool.{eqb-true, eq-eqb}
use Rattle.std.proofs.lemmas.Bool.Decides.{Decides-int_eq}
use Rattle.hp_math.specs.Rational.{ℚ, ratio, ◌≤ℚ◌, ◌<ℚ◌, le_ℚ, lt_ℚ, eq_ℚ}
use Rattle.hp_math.proofs.Rational.{ratio-parts}
use Rattle.hp_math.proofs.Field.{≤ℚ_refl, ≤ℚ_antisym, <ℚ_irrefl, le_ℚ-true, le_ℚ-false, lt_ℚ-true, lt_ℚ-false}
use Rattle.hp_tree.specs.declared.problem.Cmp.{Cmp}
use Rattle.hp_tree.specs.declared.problem.Cmp.TheVariants.{Le, Lt, Eq, Ne, Ge, Gt}
use Rattle.hp_tree.specs.Value.{compares}
use Rattle.hp_tree.specs.Sides.{negated, signed}

is_false : (a : Bool) → (a ≡ true → ⊥) → a ≡ false
is_false true h = absurd (h refl)
is_false false h = refl

not_both : (a : Bool) → a ≡ false → a ≡ true → ⊥
not_both a e f = cc

pub is_true : (b : Bool) → (b ≡ false → ⊥) → b ≡ true
is_true true h = refl
is_true false h = absurd (h refl)

-- ---- the tests
pub le_ℚ-from : (a b : ℚ) → a ≤ℚ b → le_ℚ a b ≡ true
le_ℚ-from a b h = is_true (le_ℚ a b) (λ f. <ℚ_irrefl b a (le_ℚ-false a b f) h)

pub lt_ℚ-from : (a b : ℚ) → a <ℚ b → lt_ℚ a b ≡ true
lt_ℚ-from a b h = is_true (lt_ℚ a b) (λ f. <ℚ_irrefl a b h (lt_ℚ-false a b f))

both_true : (a b : Bool) → (a && b) ≡ true → (a ≡ true) × (b ≡ true)
both_true true b e = (refl, e)
both_true false b e = absurd (cc)

pub eq_ℚ-true : (a b : ℚ) → eq_ℚ a b ≡ true → a ≡ b
eq_ℚ-true a b h =
    let parts = both_true _ _ h in
    let n : a.num ≡ b.num = (Decides-int_eq a.num b.num).0 parts.0 in
    let d : a.den ≡ b.den = eqb-true a.den b.den parts.1 in
    sym (ratio-parts a) ∙ (λ i. ratio (n i) (d i)) ∙ ratio-parts b

pub eq_ℚ-from : (a b : ℚ) → a ≡ b → eq_ℚ a b ≡ true
eq_ℚ-from a b e = subst (λ c. eq_ℚ a c ≡ true) e (both (int_eq a.num a.num) (nat_eq a.den a.den) ((Decides-int_eq a.num a.num).1 refl) (eq-eqb a.den a.den refl))
  where
    both : (x y : Bool) → x ≡ true → y ≡ true → (x && y) ≡ true
    both true y p q = q
    both false y p q = absurd (cc)

-- ---- negated relations
is_not : (x y : Bool) → (y ≡ true → x ≡ false) → (y ≡ false → x ≡ true) → x ≡ not y
is_not x true h g = h refl
is_not x false h g = g refl

not_not : (x : Bool) → x ≡ not (not x)
not_not true = refl
not_not false = refl

not_le : (a b : ℚ) → lt_ℚ b a ≡ not (le_ℚ a b)
not_le a b = is_not (lt_ℚ b a) (le_ℚ a b)
    (λ t. is_false (lt_ℚ b a) (λ s. <ℚ_irrefl b a (lt_ℚ-true b a s) (le_ℚ-true a b t)))
    (λ t. lt_ℚ-from b a (le_ℚ-false a b t))

not_lt : (a b : ℚ) → le_ℚ b a ≡ not (lt_ℚ a b)
not_lt a b = is_not (le_ℚ b a) (lt_ℚ a b)
    (λ t. is_false (le_ℚ b a) (λ s. <ℚ_irrefl a b (lt_ℚ-true a b t) (le_ℚ-true b a s)))
    (λ t. le_ℚ-from b a (lt_ℚ-false a b t))

pub compares-negated : (cmp : Cmp) (a b : ℚ) → compares (negated cmp) a b ≡ not (compares cmp a b)
compares-negated Le a b = not_le a b
compares-negated Lt a b = not_lt a b
compares-negated Eq a b = refl
compares-negated Ne a b = not_not (eq_ℚ a b)
compares-negated Ge a b = not_le b a
compares-negated Gt a b = not_lt b a

not_is : (b : Bool) → (not b ≡ true) ↔ (b ≡ false)
not_is true = (λ e. absurd (cc), λ e. absurd (cc))
not_is false = (λ e. refl, λ e. refl)

pub compares-signed : (positive : Bool) (cmp : Cmp) (a b : ℚ) → (compares (signed positive cmp) a b ≡ true) ↔ (compares cmp a b ≡ positive)
compares-signed true cmp a b = (λ e. e, λ e. e)
compares-signed false cmp a b =
    let same = compares-negated cmp a b in
    let is = not_is (compares cmp a b) in
    (λ e. is.0 (sym same ∙ e), λ e. same ∙ is.1 e)

-- ---- numbers that differ
pub not_true : (x : Bool) → not x ≡ true → x ≡ false
not_true true e = absurd (cc)
not_true false e = refl

pub one_less : (a b : ℚ) → eq_ℚ a b ≡ false → (a <ℚ b) ⊎ (b <ℚ a)
one_less a b e = by (lt_ℚ a b) (lt_ℚ b a) refl refl
  where
    by : (x y : Bool) → lt_ℚ a b ≡ x → lt_ℚ b a ≡ y → (a <ℚ b) ⊎ (b <ℚ a)
    by true y s t = inl (lt_ℚ-true a b s)
    by false true s t = inr (lt_ℚ-true b a t)
    by false false s t = absurd (not_both (eq_ℚ a b) e (eq_ℚ-from a b (≤ℚ_antisym a b (lt_ℚ-false b a t) (lt_ℚ-false a b s))))

pub less_differs : (a b : ℚ) → a <ℚ b → not (eq_ℚ a b) ≡ true
less_differs a b h = ap not (is_false (eq_ℚ a b) (λ t. <ℚ_irrefl a b h (subst (λ x. b ≤ℚ x) (sym (eq_ℚ-true a b t)) (≤ℚ_refl b))))

pub more_differs : (a b : ℚ) → b <ℚ a → not (eq_ℚ a b) ≡ true
more_differs a b h = ap not (is_false (eq_ℚ a b) (λ t. <ℚ_irrefl b a h (subst (λ x. x ≤ℚ b) (sym (eq_ℚ-true a b t)) (≤ℚ_refl b))))
