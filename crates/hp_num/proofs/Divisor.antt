-- The greatest number that divides two numbers is their greatest common divisor: all that divide both divide it.
use Rattle.std.proofs.Common.{◌≡◌, ℕ, zero, suc, ◌+◌, ◌%◌, ◌<◌, ◌≤◌, true, false, cond, nat_eq, ◌&&◌, inl, inr, refl, sym, subst, arith}
use Rattle.std.specs.Int.{IsGcd}
use Rattle.std.proofs.lemmas.Bool.{eqb-true, eq-eqb, cases_lt, and_parts, and_from}
use Rattle.std.proofs.lemmas.Nat.Gcd.{IsGcd-from_zero, IsGcd-from_mod, same_from_IsGcd, le_of_dvd, dvd_of_mod-eq-zero, mod-eq-zero_of_dvd}
use Rattle.std.proofs.Math.Nat.{mod-lt, pos_of_dvd_of_pos}
use Prim.Native.Nat.{◌∣◌}
use Rattle.hp_num.specs.Divisor.{greatest_to, gcd}

-- ---- what divides both
divides_both : (n a b : ℕ) → 0 < greatest_to n a b → (greatest_to n a b ∣ a) × (greatest_to n a b ∣ b)
unfolding greatest_to
divides_both zero a b p = absurd (omega arith)
divides_both (suc n) a b p =
    (elim (nat_eq (a % suc n) 0 && nat_eq (b % suc n) 0) as (λ t. (nat_eq (a % suc n) 0 && nat_eq (b % suc n) 0) ≡ t → 0 < cond t (suc n) (greatest_to n a b)
    → (cond t (suc n) (greatest_to n a b) ∣ a) × (cond t (suc n) (greatest_to n a b) ∣ b)) [
      | true ↦ λ t q. (let h = and_parts (nat_eq (a % suc n) 0) (nat_eq (b % suc n) 0) t in
          (dvd_of_mod-eq-zero (suc n) (eqb-true _ _ h.0), dvd_of_mod-eq-zero (suc n) (eqb-true _ _ h.1)))
      | false ↦ λ t q. divides_both n a b q
    ]) refl p

none_greater : (n a b d : ℕ) → d ≤ n → 0 < d → d ∣ a → d ∣ b → d ≤ greatest_to n a b
unfolding greatest_to
none_greater zero a b d l p g h = omega arith
none_greater (suc n) a b d l p g h =
    (elim (nat_eq (a % suc n) 0 && nat_eq (b % suc n) 0) as (λ t. (nat_eq (a % suc n) 0 && nat_eq (b % suc n) 0) ≡ t → d ≤ cond t (suc n) (greatest_to n a b)) [
      | true ↦ λ t. l
      | false ↦ λ t. elim (cases_lt n d) [
        | inl q ↦ (let e : d ≡ suc n = omega arith in
            let both = and_from (nat_eq (a % suc n) 0) (nat_eq (b % suc n) 0) (eq-eqb _ _ (mod-eq-zero_of_dvd (suc n) (subst (λ z. z ∣ a) e g)))
            (eq-eqb _ _ (mod-eq-zero_of_dvd (suc n) (subst (λ z. z ∣ b) e h))) in
            cc)
        | inr q ↦ none_greater n a b d (omega arith) p g h
      ]
    ]) refl

-- ---- a greatest common divisor, by remainders
some : (fuel a b : ℕ) → b < fuel → (g : ℕ) × IsGcd a b g
some zero a b h = absurd (omega arith)
some (suc fuel) a b h = elim (cases_lt 0 b) [
  | inl p ↦ (let less : a % b < b = mod-lt a p in let s = some fuel b (a % b) (omega arith) in (s.0, IsGcd-from_mod a b s.0 s.1))
  | inr p ↦ (a, IsGcd-from_zero a b (omega arith))
]

-- it divides one that is positive
positive_of : (a b g : ℕ) → 0 < a + b → g ∣ a → g ∣ b → 0 < g
positive_of zero b g p h k = pos_of_dvd_of_pos k (omega arith)
positive_of (suc a) b g p h k = pos_of_dvd_of_pos h (omega arith)

most_of : (a b g : ℕ) → 0 < a + b → g ∣ a → g ∣ b → g ≤ a + b
most_of zero b g p h k = omega (arith, le_of_dvd (let q : 0 < b = omega arith in q) k)
most_of (suc a) b g p h k = omega (arith, le_of_dvd (let q : 0 < suc a = omega arith in q) h)

greatest_is : (a b g : ℕ) → 0 < a + b → IsGcd a b g → greatest_to (a + b) a b ≡ g
greatest_is a b g p h =
    let q = positive_of a b g p h.0 h.1 in
    let l = none_greater (a + b) a b g (most_of a b g p h.0 h.1) q h.0 h.1 in
    let d = divides_both (a + b) a b (omega arith) in
    let m = le_of_dvd q (h.2 (greatest_to (a + b) a b) d.0 d.1) in
    omega arith

pub gcd-is : (a b : ℕ) → IsGcd a b (gcd a b)
unfolding gcd greatest_to
gcd-is zero zero = IsGcd-from_zero 0 0 refl
gcd-is zero (suc b) = let s = some (suc (suc b)) 0 (suc b) (omega arith) in subst (IsGcd 0 (suc b)) (sym (greatest_is 0 (suc b) s.0 (omega arith) s.1)) s.1
gcd-is (suc a) b = let s = some (suc b) (suc a) b (omega arith) in subst (IsGcd (suc a) b) (sym (greatest_is (suc a) b s.0 (omega arith) s.1)) s.1

pub gcd-below : (a b n : ℕ) → a < n → b < n → gcd a b < n
gcd-below a zero n h k = omega (arith, gcd_zero a)
  where
    gcd_zero : (a : ℕ) → gcd a 0 ≡ a
    gcd_zero a = same_from_IsGcd a 0 _ _ (gcd-is a 0) (IsGcd-from_zero a 0 refl)
gcd-below a (suc b) n h k = omega (arith, le_of_dvd (let q : 0 < suc b = omega arith in q) (gcd-is a (suc b)).1)

-- a greatest common divisor of a positive number is positive
pub gcd-pos : (a b : ℕ) → 0 < b → 0 < gcd a b
gcd-pos a b p = pos_of_dvd_of_pos (gcd-is a b).1 p
