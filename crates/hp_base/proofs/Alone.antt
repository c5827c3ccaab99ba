-- Tests of numbers, and whether a sum is a name alone.
use Rattle.std.proofs.Common.{◌≡◌, ℕ, ◌&&◌, Bool, true, false, pos, refl, sym, ap, subst, ◌∙◌, arith}
use Rattle.std.proofs.lemmas.Int.{ints}
use Rattle.std.specs.Prelude.{nat_eq}
use Rattle.std.specs.Ordering.{int_eq}
use Rattle.hp_math.specs.Rational.{ℚ, ratio, whole, eq_ℚ}
use Rattle.hp_tree.proofs.Compares.{eq_ℚ-from, eq_ℚ-true}

tells : {P : Type 0} (a b : Bool) → (a ≡ true → P) → (P → a ≡ true) → (b ≡ true → P) → (P → b ≡ true) → a ≡ b
tells true b p q r s = sym (s (p refl))
tells false true p q r s = q (r refl)
tells false false p q r s = refl

pos_test : (a b : ℕ) → int_eq (pos a) (pos b) ≡ nat_eq a b
pos_test a b = grind (arith, ints)

pub is_one : (x one : ℚ) → one ≡ ratio (pos 1) 1 → (int_eq x.num one.num && int_eq (pos x.den) (pos one.den)) ≡ eq_ℚ x (whole (pos 1))
unfolding whole
is_one x one e = ap (λ b. int_eq x.num one.num && b) (pos_test x.den one.den) ∙ ap (λ (y : ℚ). int_eq x.num y.num && nat_eq x.den y.den) e

pub is_zero : (b : Bool) (x : ℚ) → (b ≡ true → x ≡ whole (pos 0)) → (x ≡ whole (pos 0) → b ≡ true) → b ≡ eq_ℚ x (whole (pos 0))
is_zero b x p q = tells b (eq_ℚ x (whole (pos 0))) p q (eq_ℚ-true x (whole (pos 0))) (eq_ℚ-from x (whole (pos 0)))

pub both_hold : (a b x : Bool) → a ≡ true → x ≡ b → x ≡ a && b
both_hold a b x e h = subst (λ z. x ≡ z && b) (sym e) h

pub one_fails : (a b x : Bool) → x ≡ a → x ≡ false → x ≡ a && b
one_fails a b x e h = subst (λ z. x ≡ z && b) (sym h ∙ e) h
