-- Equations of fractions that sums of multiples need.
use Rattle.std.proofs.Common.{◌≡◌, suc, ◌*◌, ◌<◌, ℤ, pos, neg_ℤ, ◌+ℤ◌, ◌*ℤ◌, sym, ap, ◌∙◌, arith}
use Rattle.std.proofs.lemmas.Int.{ints}
use Rattle.hp_math.specs.Rational.{ℚ, ratio, whole, ◌+ℚ◌, ◌-ℚ◌, ◌*ℚ◌, neg_ℚ}
use Rattle.hp_math.proofs.Whole.{+ℤ-*ℤ}
use Rattle.hp_math.proofs.Rational.{ratio-neg}
use Rattle.hp_math.proofs.Field.{by_common1, by_common2, at_one, fractions, whole_at, whole_times_at, product_at, +ℚ_comm, +ℚ_assoc, +ℚ_zero, +ℚ-neg_ℚ, *ℚ_comm, *ℚ_assoc, *ℚ-+ℚ}
use Rattle.hp_math.proofs.Laws.{by_common4}

pub zero_plus : (x : ℚ) → whole (pos 0) +ℚ x ≡ x
zero_plus x = +ℚ_comm (whole (pos 0)) x ∙ +ℚ_zero x

pub zero_times : (x : ℚ) → whole (pos 0) *ℚ x ≡ whole (pos 0)
zero_times = by_common1 (λ x. whole (pos 0) *ℚ x ≡ whole (pos 0)) (λ k a.
    whole_times_at (pos 0) a k ∙ ap (λ n. ratio n (suc k)) (let e : pos 0 *ℤ a ≡ pos 0 *ℤ pos (suc k) = omega (arith, ints) in e) ∙ sym (whole_at (pos 0) k))

pub times_zero : (x : ℚ) → x *ℚ whole (pos 0) ≡ whole (pos 0)
times_zero x = *ℚ_comm x (whole (pos 0)) ∙ zero_times x

pub one_times : (x : ℚ) → whole (pos 1) *ℚ x ≡ x
one_times = by_common1 (λ x. whole (pos 1) *ℚ x ≡ x) (λ k a. whole_times_at (pos 1) a k ∙ ap (λ n. ratio n (suc k)) (let e : pos 1 *ℤ a ≡ a = omega (arith, ints) in e))

-- the first of three summands, and the second
pub swap_first : (x y z : ℚ) → x +ℚ (y +ℚ z) ≡ y +ℚ (x +ℚ z)
swap_first x y z = sym (+ℚ_assoc x y z) ∙ ap (λ s. s +ℚ z) (+ℚ_comm x y) ∙ +ℚ_assoc y x z

pub four : (x y z w : ℚ) → (x +ℚ y) +ℚ (z +ℚ w) ≡ (x +ℚ z) +ℚ (y +ℚ w)
four = by_common4 (λ x y z w. (x +ℚ y) +ℚ (z +ℚ w) ≡ (x +ℚ z) +ℚ (y +ℚ w)) (λ k a b c d. simp at_one (omega (arith, fractions)))

pub sum_times : (x y z : ℚ) → (x +ℚ y) *ℚ z ≡ x *ℚ z +ℚ y *ℚ z
sum_times x y z = *ℚ_comm (x +ℚ y) z ∙ *ℚ-+ℚ z x y ∙ (λ i. *ℚ_comm z x i +ℚ *ℚ_comm z y i)

pub neg_sum : (x y : ℚ) → neg_ℚ x +ℚ neg_ℚ y ≡ neg_ℚ (x +ℚ y)
neg_sum = by_common2 (λ x y. neg_ℚ x +ℚ neg_ℚ y ≡ neg_ℚ (x +ℚ y)) (λ k a b. simp at_one (omega (arith, fractions)))

neg_product : (a b : ℤ) → neg_ℤ a *ℤ b ≡ neg_ℤ (a *ℤ b)
neg_product a b =
    let zero : (a +ℤ neg_ℤ a) ≡ pos 0 = omega (arith, ints) in
    let all : pos 0 *ℤ b ≡ (a *ℤ b) +ℤ (neg_ℤ a *ℤ b) = ap (λ z. z *ℤ b) (sym zero) ∙ +ℤ-*ℤ a (neg_ℤ a) b in
    let none : pos 0 *ℤ b ≡ pos 0 = omega (arith, ints) in
    omega (arith, ints, all, none)

pub neg_times : (x y : ℚ) → neg_ℚ x *ℚ y ≡ neg_ℚ (x *ℚ y)
neg_times = by_common2 (λ x y. neg_ℚ x *ℚ y ≡ neg_ℚ (x *ℚ y)) (λ k a b.
    let p : 0 < suc k * suc k = omega arith in
    ap (λ z. z *ℚ ratio b (suc k)) (ratio-neg a (suc k) (omega arith)) ∙ product_at (neg_ℤ a) b k k ∙ ap (λ n. ratio n (suc k * suc k)) (neg_product a b)
    ∙ sym (ratio-neg (a *ℤ b) (suc k * suc k) p) ∙ ap neg_ℚ (sym (product_at a b k k)))

pub neg_zero : neg_ℚ (whole (pos 0)) ≡ whole (pos 0)
neg_zero = sym (+ℚ_zero (neg_ℚ (whole (pos 0)))) ∙ +ℚ_comm (neg_ℚ (whole (pos 0))) (whole (pos 0)) ∙ opposite
  where
    opposite : whole (pos 0) -ℚ whole (pos 0) ≡ whole (pos 0)
    opposite = +ℚ-neg_ℚ (whole (pos 0))

-- a factor of a factor of the first summand
pub factor_out : (q c w s : ℚ) → (q *ℚ c) *ℚ w +ℚ q *ℚ s ≡ q *ℚ (c *ℚ w +ℚ s)
factor_out q c w s = ap (λ x. x +ℚ q *ℚ s) (*ℚ_assoc q c w) ∙ sym (*ℚ-+ℚ q (c *ℚ w) s)
