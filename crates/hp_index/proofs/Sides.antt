-- Comparisons of two constants, each with a whole number added to it, as bounds on their difference.
use Rattle.std.proofs.Common.{◌≡◌, ℤ, pos, ◌-ℤ◌, true, sym, ap, subst, ◌∙◌, arith}
use Rattle.hp_math.specs.Rational.{ℚ, whole, ◌+ℚ◌, ◌-ℚ◌, ◌≤ℚ◌, ◌<ℚ◌, is_whole}
use Rattle.hp_math.proofs.Field.{by_common2, by_common3, at_one, fractions, +ℚ_assoc}
use Rattle.hp_index.proofs.Numbers.{whole-minus, le-difference, difference-le, lt-difference, difference-lt, eq-difference, difference-eq}

back : (x y : ℚ) → y ≡ (y -ℚ x) +ℚ x
back = by_common2 (λ x y. y ≡ (y -ℚ x) +ℚ x) (λ k a b. simp at_one (omega (arith, fractions)))

drop-≤ : (x p q : ℚ) → (p +ℚ x) ≤ℚ (q +ℚ x) → p ≤ℚ q
drop-≤ = by_common3 (λ x p q. (p +ℚ x) ≤ℚ (q +ℚ x) → p ≤ℚ q) (λ k l m n g. (let h = simp at_one at g in omega (arith, fractions)))

add-≤ : (x p q : ℚ) → p ≤ℚ q → (p +ℚ x) ≤ℚ (q +ℚ x)
add-≤ = by_common3 (λ x p q. p ≤ℚ q → (p +ℚ x) ≤ℚ (q +ℚ x)) (λ k l m n g. simp at_one (omega (arith, fractions)))

drop-< : (x p q : ℚ) → (p +ℚ x) <ℚ (q +ℚ x) → p <ℚ q
drop-< = by_common3 (λ x p q. (p +ℚ x) <ℚ (q +ℚ x) → p <ℚ q) (λ k l m n g. (let h = simp at_one at g in omega (arith, fractions)))

add-< : (x p q : ℚ) → p <ℚ q → (p +ℚ x) <ℚ (q +ℚ x)
add-< = by_common3 (λ x p q. p <ℚ q → (p +ℚ x) <ℚ (q +ℚ x)) (λ k l m n g. simp at_one (omega (arith, fractions)))

drop-≡ : (x p q : ℚ) → p +ℚ x ≡ q +ℚ x → p ≡ q
drop-≡ = by_common3 (λ x p q. p +ℚ x ≡ q +ℚ x → p ≡ q) (λ k l m n g. (let h = simp at_one at g in omega (arith, fractions)))

-- the right side with the left number added to it
right-side : (p q : ℤ) (b : ℚ) → b +ℚ whole q ≡ (b +ℚ whole (q -ℤ p)) +ℚ whole p
right-side p q b =
    ap (λ y. b +ℚ y) (back (whole p) (whole q)) ∙ sym (+ℚ_assoc b (whole q -ℚ whole p) (whole p)) ∙ ap (λ c. (b +ℚ c) +ℚ whole p) (whole-minus q p)

module _ (p q : ℤ) (a b : ℚ) where
  pub le-bound : (a +ℚ whole p) ≤ℚ (b +ℚ whole q) → (a -ℚ b) ≤ℚ whole (q -ℤ p)
  le-bound h = le-difference (q -ℤ p) a b (drop-≤ (whole p) a (b +ℚ whole (q -ℤ p)) (subst (λ s. (a +ℚ whole p) ≤ℚ s) (right-side p q b) h))

  pub bound-le : (a -ℚ b) ≤ℚ whole (q -ℤ p) → (a +ℚ whole p) ≤ℚ (b +ℚ whole q)
  bound-le h = subst (λ s. (a +ℚ whole p) ≤ℚ s) (sym (right-side p q b)) (add-≤ (whole p) a (b +ℚ whole (q -ℤ p)) (difference-le (q -ℤ p) a b h))

  pub lt-bound : is_whole a ≡ true → is_whole b ≡ true → (a +ℚ whole p) <ℚ (b +ℚ whole q) → (a -ℚ b) ≤ℚ whole ((q -ℤ p) -ℤ pos 1)
  lt-bound u v h = lt-difference (q -ℤ p) a b u v (drop-< (whole p) a (b +ℚ whole (q -ℤ p)) (subst (λ s. (a +ℚ whole p) <ℚ s) (right-side p q b) h))

  pub bound-lt : is_whole a ≡ true → is_whole b ≡ true → (a -ℚ b) ≤ℚ whole ((q -ℤ p) -ℤ pos 1) → (a +ℚ whole p) <ℚ (b +ℚ whole q)
  bound-lt u v h = subst (λ s. (a +ℚ whole p) <ℚ s) (sym (right-side p q b)) (add-< (whole p) a (b +ℚ whole (q -ℤ p)) (difference-lt (q -ℤ p) a b u v h))

  pub eq-bound : a +ℚ whole p ≡ b +ℚ whole q → a -ℚ b ≡ whole (q -ℤ p)
  eq-bound h = eq-difference (q -ℤ p) a b (drop-≡ (whole p) a (b +ℚ whole (q -ℤ p)) (h ∙ right-side p q b))

  pub bound-eq : a -ℚ b ≡ whole (q -ℤ p) → a +ℚ whole p ≡ b +ℚ whole q
  bound-eq h = ap (λ s. s +ℚ whole p) (difference-eq (q -ℤ p) a b h) ∙ sym (right-side p q b)
