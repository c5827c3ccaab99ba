-- Comparisons with 0: of a positive multiple, and of a difference.
use Rattle.std.proofs.Common.{◌≡◌, ◌↔◌, ℕ, zero, suc, ◌<◌, ℤ, pos, neg_ℤ, ◌*ℤ◌, ◌≤ℤ◌, ◌<ℤ◌, sym, ap, subst, ◌∙◌, arith}
use Rattle.std.proofs.lemmas.Int.{ints}
use Rattle.hp_math.specs.Rational.{ℚ, ratio, whole, ◌+ℚ◌, ◌-ℚ◌, ◌*ℚ◌, neg_ℚ, ◌≤ℚ◌, ◌<ℚ◌}
use Rattle.hp_math.proofs.Whole.{*ℤ_mono, *ℤ_smono, *ℤ-≤_cancel, *ℤ-<_cancel, *ℤ_cancel}
use Rattle.hp_math.proofs.Rational.{ratio-≤, ratio-≤_out, ratio-<, ratio-<_out, ratio-inj}
use Rattle.hp_math.proofs.Field.{at_one, by_common1, by_common2, fractions, whole_at, whole_times_at}
use Rattle.hp_math.proofs.Laws.{neg_ℚ-neg_ℚ, whole-neg}
use Rattle.hp_lit.specs.declared.literal.Rel.{Rel}
use Rattle.hp_lit.specs.declared.literal.Rel.TheVariants.{Le, Lt, Eq}
use Rattle.hp_lit.specs.Truth.{Compares}

pub and_then : {A B C : Type 0} → A ↔ B → B ↔ C → A ↔ C
and_then h g = (λ a. g.0 (h.0 a), λ c. h.1 (g.1 c))

pub turned : {A B : Type 0} → A ↔ B → B ↔ A
turned h = (h.1, h.0)

-- ---- whole numbers over one denominator
abbrev IntCompares : Rel → ℤ → ℤ → Type 0
IntCompares Le a b = a ≤ℤ b
IntCompares Lt a b = a <ℤ b
IntCompares Eq a b = a ≡ b

at_one_in : (r : Rel) (a b : ℤ) (k : ℕ) → IntCompares r a b → Compares r (ratio a (suc k)) (ratio b (suc k))
at_one_in Le a b k h = ratio-≤ a b (suc k) (omega arith) h
at_one_in Lt a b k h = ratio-< a b (suc k) (omega arith) h
at_one_in Eq a b k h = ap (λ n. ratio n (suc k)) h

at_one_out : (r : Rel) (a b : ℤ) (k : ℕ) → Compares r (ratio a (suc k)) (ratio b (suc k)) → IntCompares r a b
at_one_out Le a b k h = ratio-≤_out a b (suc k) (omega arith) h
at_one_out Lt a b k h = ratio-<_out a b (suc k) (omega arith) h
at_one_out Eq a b k h = ratio-inj a b (suc k) (omega arith) h

times_in : (r : Rel) (j : ℕ) (a z : ℤ) → z ≡ pos 0 → IntCompares r a z → IntCompares r (pos (suc j) *ℤ a) z
times_in Le j a z e h = omega (arith, ints, e, *ℤ_mono a (pos 0) (suc j) (omega (arith, ints)))
times_in Lt j a z e h = omega (arith, ints, e, *ℤ_smono a (pos 0) (suc j) (omega arith) (omega (arith, ints)))
times_in Eq j a z e h = let zero : a ≡ pos 0 = h ∙ e in ap (λ x. pos (suc j) *ℤ x) zero ∙ omega (arith, ints)

times_out : (r : Rel) (j : ℕ) (a z : ℤ) → z ≡ pos 0 → IntCompares r (pos (suc j) *ℤ a) z → IntCompares r a z
times_out Le j a z e h = omega (arith, ints, e, *ℤ-≤_cancel a (pos 0) (suc j) (omega arith) (omega (arith, ints)))
times_out Lt j a z e h = omega (arith, ints, e, *ℤ-<_cancel a (pos 0) (suc j) (omega arith) (omega (arith, ints)))
times_out Eq j a z e h = omega (arith, ints, e, *ℤ_cancel a (pos 0) (suc j) (omega arith) (omega (arith, ints)))

none_of : (k : ℕ) → pos 0 *ℤ pos (suc k) ≡ pos 0
none_of k = omega (arith, ints)

multiple_at : (r : Rel) (j k : ℕ) (a : ℤ) → Compares r (whole (pos (suc j)) *ℚ ratio a (suc k)) (whole (pos 0)) ↔ Compares r (ratio a (suc k)) (whole (pos 0))
multiple_at r j k a =
    let zero = pos 0 *ℤ pos (suc k) in
    let times = whole_times_at (pos (suc j)) a k in
    let none = whole_at (pos 0) k in (
      λ h. subst (λ z. Compares r (ratio a (suc k)) z) (sym none)
          (at_one_in r a zero k (times_out r j a zero (none_of k) (at_one_out r (pos (suc j) *ℤ a) zero k (subst (λ z. Compares r (ratio (pos (suc j) *ℤ a) (suc k)) z) none
          (subst (λ x. Compares r x (whole (pos 0))) times h))))),
      λ h. subst (λ x. Compares r x (whole (pos 0))) (sym times) (subst (λ z. Compares r (ratio (pos (suc j) *ℤ a) (suc k)) z) (sym none)
          (at_one_in r (pos (suc j) *ℤ a) zero k (times_in r j a zero (none_of k) (at_one_out r a zero k (subst (λ z. Compares r (ratio a (suc k)) z) none h))))),
    )

-- a positive multiple stands to 0 as the number does
pub multiple_compares : (r : Rel) (k : ℕ) (x : ℚ) → 0 < k → Compares r (whole (pos k) *ℚ x) (whole (pos 0)) ↔ Compares r x (whole (pos 0))
multiple_compares r zero x p = absurd (omega arith)
multiple_compares r (suc j) x p = by_common1 (λ x. Compares r (whole (pos (suc j)) *ℚ x) (whole (pos 0)) ↔ Compares r x (whole (pos 0))) (λ k a. multiple_at r j k a) x

-- ---- differences
le_difference : (x y : ℚ) → x ≤ℚ y → (x -ℚ y) ≤ℚ whole (pos 0)
le_difference = by_common2 (λ x y. x ≤ℚ y → (x -ℚ y) ≤ℚ whole (pos 0)) (λ k a b g. simp (whole_at (pos 0) k, at_one) (omega (arith, fractions)))

lt_difference : (x y : ℚ) → x <ℚ y → (x -ℚ y) <ℚ whole (pos 0)
lt_difference = by_common2 (λ x y. x <ℚ y → (x -ℚ y) <ℚ whole (pos 0)) (λ k a b g. simp (whole_at (pos 0) k, at_one) (omega (arith, fractions)))

eq_difference : (x y : ℚ) → x ≡ y → x -ℚ y ≡ whole (pos 0)
eq_difference = by_common2 (λ x y. x ≡ y → x -ℚ y ≡ whole (pos 0)) (λ k a b g. simp (whole_at (pos 0) k, at_one) (omega (arith, fractions)))

difference_le : (x y : ℚ) → (x -ℚ y) ≤ℚ whole (pos 0) → x ≤ℚ y
difference_le = by_common2 (λ x y. (x -ℚ y) ≤ℚ whole (pos 0) → x ≤ℚ y) (λ k a b g. let g2 = simp (whole_at (pos 0) k, at_one) at g in omega (arith, fractions))

difference_lt : (x y : ℚ) → (x -ℚ y) <ℚ whole (pos 0) → x <ℚ y
difference_lt = by_common2 (λ x y. (x -ℚ y) <ℚ whole (pos 0) → x <ℚ y) (λ k a b g. let g2 = simp (whole_at (pos 0) k, at_one) at g in omega (arith, fractions))

difference_eq : (x y : ℚ) → x -ℚ y ≡ whole (pos 0) → x ≡ y
difference_eq = by_common2 (λ x y. x -ℚ y ≡ whole (pos 0) → x ≡ y) (λ k a b g. let g2 = simp (whole_at (pos 0) k, at_one) at g in omega (arith, fractions))

pub difference_compares : (r : Rel) (x y : ℚ) → Compares r (x -ℚ y) (whole (pos 0)) ↔ Compares r x y
difference_compares Le x y = (difference_le x y, le_difference x y)
difference_compares Lt x y = (difference_lt x y, lt_difference x y)
difference_compares Eq x y = (difference_eq x y, eq_difference x y)

-- a whole number on the right, with its sign changed
pub moved_compares : (r : Rel) (x : ℚ) (n : ℤ) → Compares r x (whole (neg_ℤ n)) ↔ Compares r (x +ℚ whole n) (whole (pos 0))
moved_compares r x n =
    let same : x -ℚ whole (neg_ℤ n) ≡ x +ℚ whole n = ap (λ y. x +ℚ y) (ap neg_ℚ (sym (whole-neg n)) ∙ neg_ℚ-neg_ℚ (whole n)) in
    let h = difference_compares r x (whole (neg_ℤ n)) in
    (λ g. subst (λ z. Compares r z (whole (pos 0))) same (h.1 g), λ g. h.0 (subst (λ z. Compares r z (whole (pos 0))) (sym same) g))
