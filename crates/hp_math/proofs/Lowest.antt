-- Lowest terms make no number larger.
use Rattle.std.proofs.Common.{◌≡◌, ℕ, ◌*◌, ◌%◌, ◌<◌, ◌≤◌, pos, unsigned_abs, inl, inr, ap, ◌∙◌, arith}
use Rattle.std.proofs.lemmas.Bool.{cases_lt}
use Rattle.std.proofs.Math.Nat.{mul-mod_left, mul-le-mul_left, mul-le-mul_right}
use borrow.Author.Differences.{same_out, product_is}
use Rattle.hp_math.specs.Rational.{ℚ, magnitude, ratio}
use Rattle.hp_math.proofs.Rational.{ratio-is}
use Rattle.hp_math.proofs.Parts.{abs-magnitude}

pub copies : (n d : ℕ) → 0 < d → magnitude (ratio (pos n) d).num * d ≡ n * (ratio (pos n) d).den
copies n d p =
    let q : ℚ = ratio (pos n) d in
    omega (arith, same_out _ _ (ratio-is (pos n) d p), product_is q.num (pos d), product_is (pos n) (pos q.den))

pub denominator_most : (n d : ℕ) → 0 < d → (ratio (pos n) d).den ≤ d
denominator_most n d p =
    let q : ℚ = ratio (pos n) d in
    elim (cases_lt d q.den) [
      | inl l ↦ absurd (q.lowest d p l (let s : d * magnitude q.num ≡ n * q.den = omega (arith, copies n d p) in ap (λ x. x % q.den) s ∙ mul-mod_left n q.den))
      | inr l ↦ l
    ]

-- where m / d is n / e, and e is at most d
pub numerator_below : (m n d e : ℕ) → 0 < d → m * d ≡ n * e → e ≤ d → m ≤ n
numerator_below m n d e p s l = elim (cases_lt n m) [
  | inl less ↦ absurd (omega (arith, mul-le-mul_right d less, mul-le-mul_left n l))
  | inr most ↦ most
]

pub numerator_most : (n d : ℕ) → 0 < d → unsigned_abs (ratio (pos n) d).num ≤ n
numerator_most n d p =
    let q : ℚ = ratio (pos n) d in
    let below : magnitude q.num ≤ n = numerator_below (magnitude q.num) n d q.den p (copies n d p) (denominator_most n d p) in
    omega (arith, abs-magnitude q.num)
