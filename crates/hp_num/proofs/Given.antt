-- What a computation came from that was not refused, and the exact numbers that its operations gave.
use Rattle.std.proofs.Common.{◌≡◌, ℤ, ◌-ℤ◌, ◌*ℤ◌, ◌∙◌, refl, subst, Result, Ok, Err, IfOk, unsigned_abs}
use Rattle.hp_math.specs.Rational.{ℚ, ◌+ℚ◌, ◌*ℚ◌}
use Rattle.hp_num.specs.declared.wide.Wide.{Wide}
use Rattle.hp_num.specs.Divisor.{gcd}
use Rattle.hp_num.specs.Wide.{times_of, minus_of, add_of, mul_of, mul_sub_of, ◌>>=◌}
use Rattle.hp_num.proofs.Bits.{times_gave, minus_gave}
use Rattle.hp_num.proofs.Divisor.{gcd-is}
use Rattle.hp_num.proofs.Sums.{add_exact, mul_exact}

-- the first step was not refused, nor what followed
pub record Came {A B E : Type 0} (r : Result A E) (f : A → Result B E) (y : B) : Type 0 where
  pub value : A
  pub first : r ≡ Ok value
  pub rest : f value ≡ Ok y

pub came : {A B E : Type 0} (r : Result A E) (f : A → Result B E) (y : B) → (r >>= f) ≡ Ok y → Came r f y
came (Ok x) f y h = record { value = x; first = refl; rest = h }
came (Err e) f y h = absurd (cc)

-- what is so of a result that was given
given : (P : ℚ → Type 0) (r : Result ℚ Wide) (z : ℚ) → IfOk r P → r ≡ Ok z → P z
given P r z h e = subst (λ s. IfOk s P) e h

pub mul_gave : (x y z : ℚ) → mul_of x y ≡ Ok z → z ≡ x *ℚ y
unfolding mul_of
mul_gave x y z e =
    given (λ p. p ≡ x *ℚ y) (mul_of x y) z
    (mul_exact (gcd (unsigned_abs x.num) y.den) (gcd (unsigned_abs y.num) x.den) x y (gcd-is (unsigned_abs x.num) y.den) (gcd-is (unsigned_abs y.num) x.den)) e

pub add_gave : (x y z : ℚ) → add_of x y ≡ Ok z → z ≡ x +ℚ y
unfolding add_of
add_gave x y z e = given (λ s. s ≡ x +ℚ y) (add_of x y) z (add_exact (gcd x.den y.den) x y (gcd-is x.den y.den)) e

pub mul_sub_gave : (d a c b r : ℤ) → mul_sub_of d a c b ≡ Ok r → r ≡ (d *ℤ a) -ℤ (c *ℤ b)
unfolding mul_sub_of
mul_sub_gave d a c b r h =
    let x = came (times_of d a) (λ left. times_of c b >>= λ right. minus_of left right) r h in
    let y = came (times_of c b) (λ right. minus_of x.value right) r x.rest in
    (minus_gave x.value y.value r y.rest).value ∙ (λ i. (times_gave d a x.value x.first).value i -ℤ (times_gave c b y.value y.first).value i)
