-- The two numbers of a negation, of a whole number and of 0, and the sign of a fraction by its numerator.
use Rattle.std.proofs.Common.{◌≡◌, ℕ, ◌*◌, ◌%◌, ◌<◌, ℤ, pos, negsuc, neg_ℤ, sym, ◌∙◌, ap, subst, arith, unsigned_abs}
use Rattle.std.proofs.lemmas.Int.{ints}
use borrow.Author.Differences.{neg_is}
use Rattle.hp_math.specs.Rational.{ℚ, IsLowest, magnitude, neg_ℚ, whole}
use Rattle.hp_math.proofs.Rational.{ratio-parts, ratio-kept, ratio-same}

pub abs-magnitude : (z : ℤ) → unsigned_abs z ≡ magnitude z
abs-magnitude (pos n) = omega arith
abs-magnitude (negsuc n) = omega arith

pub magnitude-neg_ℤ : (n : ℤ) → magnitude (neg_ℤ n) ≡ magnitude n
magnitude-neg_ℤ n = omega (arith, neg_is n)

pub lowest-neg_ℤ : (n : ℤ) (d : ℕ) → IsLowest n d → IsLowest (neg_ℤ n) d
lowest-neg_ℤ n d h = subst (λ z. (e : ℕ) → 0 < e → e < d → (e * z) % d ≡ 0 → ⊥) (sym (magnitude-neg_ℤ n)) h

-- a negation turns the numerator's sign and keeps the denominator
pub neg_ℚ-parts : (a : ℚ) → ((neg_ℚ a).num ≡ neg_ℤ a.num) × ((neg_ℚ a).den ≡ a.den)
unfolding neg_ℚ
neg_ℚ-parts a = ratio-kept (neg_ℤ a.num) a.den a.positive (lowest-neg_ℤ a.num a.den a.lowest)

none_below_one : (n : ℤ) → IsLowest n 1
none_below_one n e p q h = omega arith

pub whole-parts : (n : ℤ) → ((whole n).num ≡ n) × ((whole n).den ≡ 1)
unfolding whole
whole-parts n = ratio-kept n 1 (omega arith) (none_below_one n)

-- a fraction is 0 exactly where its numerator is
pub zero_from_num : (a : ℚ) → a.num ≡ pos 0 → a ≡ whole (pos 0)
unfolding whole
zero_from_num a h = sym (ratio-parts a) ∙ ratio-same a.num (pos 0) a.den 1 a.positive (omega arith) (omega (arith, ints))

pub num_of_zero : (a : ℚ) → a ≡ whole (pos 0) → a.num ≡ pos 0
num_of_zero a h = ap (λ q. q.num) h ∙ (whole-parts (pos 0)).0
