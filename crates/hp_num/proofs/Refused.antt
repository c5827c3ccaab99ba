-- The operation that a refused formula names passes 2^127 - 1.
use Rattle.std.proofs.Common.{◌≡◌, ℕ, ◌≤◌, ◌^◌, ◌/◌, ℤ, pos, ◌+ℤ◌, ◌-ℤ◌, ◌*ℤ◌, Result, Ok, Err, IfErr, true, false, cond, refl, inl, inr, unsigned_abs}
use Rattle.std.proofs.lemmas.Bool.{lt-ltb, cases_lt}
use Rattle.std.specs.Prelude.{int_div}
use Rattle.hp_math.specs.Rational.{ℚ}
use Rattle.hp_num.specs.declared.wide.Wide.{Wide}
use Rattle.hp_num.specs.Wide.{times_of, plus_of, minus_of, is_narrow, Passes, add_over, mul_over, ◌>>=◌}

-- an exact result that isn't narrow
too_wide : (z : ℤ) → is_narrow z ≡ false → 2 ^ 127 ≤ unsigned_abs z
too_wide z h = elim (cases_lt (unsigned_abs z) (2 ^ 127)) [
  | inl l ↦ (let e : is_narrow z ≡ true = lt-ltb _ _ l in cc)
  | inr l ↦ l
]

refused : (z : ℤ) (e : Wide) → (2 ^ 127 ≤ unsigned_abs z → Passes e) → IfErr (cond (is_narrow z) (Ok z) (Err e)) Passes
refused z e f = (elim (is_narrow z) as (λ t. is_narrow z ≡ t → IfErr (cond t (Ok z) (Err e)) Passes) [
  | true ↦ λ t. tt
  | false ↦ λ t. f (too_wide z t)
]) refl

pub times_passes : (a b : ℤ) → IfErr (times_of a b) Passes
times_passes a b = refused (a *ℤ b) _ (λ h. h)

pub plus_passes : (a b : ℤ) → IfErr (plus_of a b) Passes
plus_passes a b = refused (a +ℤ b) _ (λ h. h)

pub minus_passes : (a b : ℤ) → IfErr (minus_of a b) Passes
minus_passes a b = refused (a -ℤ b) _ (λ h. h)

-- a step, and then the rest
then_passes : {A B : Type 0} (r : Result A Wide) (f : A → Result B Wide) → IfErr r Passes → ((x : A) → IfErr (f x) Passes) → IfErr (r >>= f) Passes
then_passes (Ok x) f h k = k x
then_passes (Err e) f h k = h

pub add_over-passes : (h : ℕ) (x y : ℚ) → IfErr (add_over h x y) Passes
unfolding add_over
add_over-passes h x y =
    then_passes (times_of x.num (pos (y.den / h))) _ (times_passes x.num (pos (y.den / h))) (λ left.
    then_passes (times_of y.num (pos (x.den / h))) _ (times_passes y.num (pos (x.den / h))) (λ right.
    then_passes (plus_of left right) _ (plus_passes left right) (λ sum.
    then_passes (times_of (pos x.den) (pos (y.den / h))) _ (times_passes (pos x.den) (pos (y.den / h))) (λ below. tt))))

pub mul_over-passes : (h k : ℕ) (x y : ℚ) → IfErr (mul_over h k x y) Passes
unfolding mul_over
mul_over-passes h k x y =
    then_passes (times_of (int_div x.num (pos h)) (int_div y.num (pos k))) _ (times_passes (int_div x.num (pos h)) (int_div y.num (pos k))) (λ top.
    then_passes (times_of (pos (x.den / k)) (pos (y.den / h))) _ (times_passes (pos (x.den / k)) (pos (y.den / h))) (λ below. tt))
