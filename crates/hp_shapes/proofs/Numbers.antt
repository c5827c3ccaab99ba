-- Sums of whole numbers, and numbers below 0.
use Rattle.std.proofs.Common.{◌≡◌, ℤ, pos, ◌+ℤ◌, ◌*ℤ◌, true, false, sym, ap, ◌∙◌, arith}
use Rattle.std.specs.Prelude.{int_lt, if◌then◌else◌}
use Rattle.std.proofs.lemmas.Bool.{eqb-true}
use Rattle.std.proofs.lemmas.Int.{ints}
use Rattle.hp_math.specs.Rational.{ℚ, whole, ◌+ℚ◌, is_whole, lt_ℚ, neg_ℚ}
use Rattle.hp_math.proofs.Rational.{ℚ-ext}
use Rattle.hp_math.proofs.Parts.{whole-parts}
use Rattle.hp_math.proofs.Laws.{whole-+}
use Rattle.hp_tree.specs.declared.term.Term.{Neg, Number}
use Rattle.hp_local.specs.Rows.{number_term}

pub is_its_whole : (q : ℚ) → is_whole q ≡ true → q ≡ whole q.num
is_its_whole q h = let parts = whole-parts q.num in ℚ-ext q (whole q.num) (sym parts.0) (eqb-true q.den 1 h ∙ sym parts.1)

pub shifted_is : (base : ℚ) (offset : ℤ) → is_whole base ≡ true → base +ℚ whole offset ≡ whole (base.num +ℤ offset)
shifted_is base offset h = ap (λ q. q +ℚ whole offset) (is_its_whole base h) ∙ whole-+ base.num offset

pub below_zero : (q : ℚ) → lt_ℚ q (whole (pos 0)) ≡ int_lt q.num (pos 0)
below_zero q =
    let parts = whole-parts (pos 0) in
    let left : q.num *ℤ pos 1 ≡ q.num = omega (arith, ints) in
    let right : pos 0 *ℤ pos q.den ≡ pos 0 = omega (arith, ints) in
    (λ j. int_lt (q.num *ℤ pos (parts.1 j)) (parts.0 j *ℤ pos q.den)) ∙ (λ j. int_lt (left j) (right j))

pub term_below : (q : ℚ) (n : ℤ) → n ≡ q.num → int_lt n (pos 0) ≡ true → number_term q ≡ Neg (Number (neg_ℚ q))
term_below q n is h = ap (λ b. if b then Neg (Number (neg_ℚ q)) else Number q) (below_zero q ∙ ap (λ k. int_lt k (pos 0)) (sym is) ∙ h)

pub term_from : (q : ℚ) (n : ℤ) → n ≡ q.num → int_lt n (pos 0) ≡ false → number_term q ≡ Number q
term_from q n is h = ap (λ b. if b then Neg (Number (neg_ℚ q)) else Number q) (below_zero q ∙ ap (λ k. int_lt k (pos 0)) (sym is) ∙ h)
