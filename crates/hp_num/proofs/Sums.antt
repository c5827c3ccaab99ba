-- What the formulas of the sum and of the product give, where no step is refused, is the sum and the product.
use Rattle.std.proofs.Common.{◌≡◌, ℕ, zero, suc, ◌*◌, ◌/◌, ◌<◌, ◌^◌, ℤ, pos, ◌+ℤ◌, ◌-ℤ◌, ◌*ℤ◌, ◌<ℤ◌, unsigned_abs, Result, Ok, Err, IfOk, sym, refl, ap, ◌∙◌, arith}
use Rattle.std.proofs.lemmas.Int.{ints}
use Rattle.std.proofs.Math.Nat.{mul-pos, pos_of_dvd_of_pos, div-mul_cancel}
use Rattle.std.specs.Int.{IsGcd}
use Prim.Native.Nat.{◌∣◌}
use borrow.Author.Differences.{same_in}
use Rattle.hp_math.proofs.Whole.{up-*ℤ, down-*ℤ}
use Rattle.std.specs.Prelude.{int_div}
use Rattle.hp_num.specs.declared.wide.Wide.{Wide}
use Rattle.hp_num.specs.Wide.{times_of, plus_of, minus_of, add_over, mul_over, ◌>>=◌}
use Rattle.hp_num.proofs.Bits.{times_gave, plus_gave, minus_gave}
use Rattle.hp_num.proofs.Reduce.{whole_quotient}
use Rattle.hp_math.specs.Rational.{ℚ, ratio, ◌+ℚ◌, ◌*ℚ◌}
use Rattle.hp_math.proofs.Rational.{sum-over, ratio-scale}

-- a step that may be refused, and then the rest
pub then_exact : {A B : Type 0} (P : B → Type 0) (r : Result A Wide) (f : A → Result B Wide) → ((x : A) → r ≡ Ok x → IfOk (f x) P) → IfOk (r >>= f) P
then_exact P (Ok x) f h = h x refl
then_exact P (Err e) f h = tt

-- the difference of two products
pub difference_exact : (d a c b left right : ℤ) → times_of d a ≡ Ok left → times_of c b ≡ Ok right → (r : Result ℤ Wide) → r ≡ minus_of left right
    → IfOk r (λ value. value ≡ (d *ℤ a) -ℤ (c *ℤ b))
difference_exact d a c b left right s t (Ok x) h = (minus_gave left right x (sym h)).value ∙ (λ i. (times_gave d a left s).value i -ℤ (times_gave c b right t).value i)
difference_exact d a c b left right s t (Err e) h = tt

pub difference_narrow : (left right : ℤ) (r : Result ℤ Wide) → r ≡ minus_of left right → IfOk r (λ value. unsigned_abs value < 2 ^ 127)
difference_narrow left right (Ok x) h = (minus_gave left right x (sym h)).narrow
difference_narrow left right (Err e) h = tt

-- a product of positive numbers
pub product_pos : (a b r : ℤ) (m n : ℕ) → times_of a b ≡ Ok r → a ≡ pos m → b ≡ pos n → 0 < m → 0 < n → pos 0 <ℤ r
product_pos a b r m n h s t p q =
    let e : r ≡ pos (m * n) = (times_gave a b r h).value ∙ (λ i. s i *ℤ t i) in
    let z = mul-pos p q in
    omega (arith, ints)

module _ (h : ℕ) (x y : ℚ) (g : IsGcd x.den y.den h) where
  hp : 0 < h
  hp = pos_of_dvd_of_pos g.0 x.positive

  sum_is : (l r s d : ℤ) → times_of x.num (pos (y.den / h)) ≡ Ok l → times_of y.num (pos (x.den / h)) ≡ Ok r
      → plus_of l r ≡ Ok s → times_of (pos x.den) (pos (y.den / h)) ≡ Ok d → ratio s (unsigned_abs d) ≡ x +ℚ y
  sum_is l r s d a b c e =
      let n : s ≡ (x.num *ℤ pos (y.den / h)) +ℤ (y.num *ℤ pos (x.den / h)) =
      (plus_gave l r s c).value ∙ (λ i. (times_gave x.num (pos (y.den / h)) l a).value i +ℤ (times_gave y.num (pos (x.den / h)) r b).value i) in
      let m : unsigned_abs d ≡ x.den * (y.den / h) = ap unsigned_abs (times_gave (pos x.den) (pos (y.den / h)) d e).value in
      (λ i. ratio (n i) (m i)) ∙ sym (sum-over x y h (x.den / h) (y.den / h) hp (sym (div-mul_cancel h g.0)) (sym (div-mul_cancel h g.1)))

  pub add_exact : IfOk (add_over h x y) (λ sum. sum ≡ x +ℚ y)
  unfolding add_over
  add_exact =
      let P = λ (sum : ℚ). sum ≡ x +ℚ y in
      then_exact P (times_of x.num (pos (y.den / h))) _ (λ l a. then_exact P (times_of y.num (pos (x.den / h))) _ (λ r b.
      then_exact P (plus_of l r) _ (λ s c. then_exact P (times_of (pos x.den) (pos (y.den / h))) _ (λ d e. sum_is l r s d a b c e))))

factor-pos : (a b n : ℕ) → a * b ≡ n → 0 < n → 0 < a
factor-pos zero b n e p = absurd (omega arith)
factor-pos (suc a) b n e p = omega arith

products : (a c : ℤ) (h k : ℕ) → (a *ℤ c) *ℤ pos (h * k) ≡ (a *ℤ pos h) *ℤ (c *ℤ pos k)
products a c h k = same_in _ _ (simp (up-*ℤ, down-*ℤ) (omega arith))

shares : (b d h k : ℕ) → b * d * (h * k) ≡ (b * k) * (d * h)
shares b d h k = omega arith

-- the denominator over a divisor is positive
pub share-pos : (h : ℕ) (x : ℚ) → h ∣ x.den → 0 < x.den / h
share-pos h x g = factor-pos (x.den / h) h x.den (div-mul_cancel h g) x.positive

module _ (h k : ℕ) (x y : ℚ) (g : IsGcd (unsigned_abs x.num) y.den h) (j : IsGcd (unsigned_abs y.num) x.den k) where
  hp2 : 0 < h
  hp2 = pos_of_dvd_of_pos g.1 y.positive

  kp : 0 < k
  kp = pos_of_dvd_of_pos j.1 x.positive

  left-den : (x.den / k) * k ≡ x.den
  left-den = div-mul_cancel k j.1

  right-den : (y.den / h) * h ≡ y.den
  right-den = div-mul_cancel h g.1

  pub below-pos : 0 < (x.den / k) * (y.den / h)
  below-pos = mul-pos (share-pos k x j.1) (share-pos h y g.1)

  product_is : (t d : ℤ) → times_of (int_div x.num (pos h)) (int_div y.num (pos k)) ≡ Ok t → times_of (pos (x.den / k)) (pos (y.den / h)) ≡ Ok d
      → ratio t (unsigned_abs d) ≡ x *ℚ y
  unfolding ◌*ℚ◌
  product_is t d a b =
      let A = int_div x.num (pos h) in let C = int_div y.num (pos k) in
      let m : unsigned_abs d ≡ (x.den / k) * (y.den / h) = ap unsigned_abs (times_gave (pos (x.den / k)) (pos (y.den / h)) d b).value in
      let n : (A *ℤ C) *ℤ pos (h * k) ≡ x.num *ℤ y.num = products A C h k ∙ (λ i. whole_quotient x.num h g.0 i *ℤ whole_quotient y.num k j.0 i) in
      let e : (x.den / k) * (y.den / h) * (h * k) ≡ x.den * y.den = shares (x.den / k) (y.den / h) h k ∙ (λ i. left-den i * right-den i) in
      (λ i. ratio ((times_gave A C t a).value i) (m i)) ∙ sym (ratio-scale (A *ℤ C) ((x.den / k) * (y.den / h)) (h * k) below-pos (mul-pos hp2 kp)) ∙ (λ i. ratio (n i) (e i))

  pub mul_exact : IfOk (mul_over h k x y) (λ product. product ≡ x *ℚ y)
  unfolding mul_over
  mul_exact =
      let P = λ (product : ℚ). product ≡ x *ℚ y in
      then_exact P (times_of (int_div x.num (pos h)) (int_div y.num (pos k))) _ (λ t a.
      then_exact P (times_of (pos (x.den / k)) (pos (y.den / h))) _ (λ d b. product_is t d a b))
