-- Comparisons of fractions as bounds on their difference.
use Rattle.std.proofs.Common.{◌≡◌, true, ℤ, pos, neg_ℤ, ◌+ℤ◌, ◌-ℤ◌, ◌≤ℤ◌, ◌<ℤ◌, sym, ap, subst, ◌∙◌, arith}
use Rattle.std.proofs.lemmas.Int.{ints}
use Rattle.std.proofs.lemmas.Bool.{eqb-true, eq-eqb}
use Rattle.hp_math.specs.Rational.{ℚ, ratio, whole, ◌+ℚ◌, ◌-ℚ◌, neg_ℚ, ◌≤ℚ◌, ◌<ℚ◌, is_whole}
use Rattle.hp_math.proofs.Rational.{ratio-kept, ratio-parts, ratio-neg, ratio-+, ratio-≤, ratio-<, ratio-≤_out, ratio-<_out}
use Rattle.hp_math.proofs.Field.{by_common2, at_one, fractions, whole_at}

-- ---- whole numbers
pub whole-parts : (n : ℤ) → ((whole n).num ≡ n) × ((whole n).den ≡ 1)
unfolding whole
whole-parts n = ratio-kept n 1 (omega arith) (λ e p l h. omega arith)

pub whole-whole : (n : ℤ) → is_whole (whole n) ≡ true
whole-whole n = eq-eqb _ _ (whole-parts n).1

pub whole-of : (q : ℚ) → is_whole q ≡ true → q ≡ whole q.num
unfolding whole
whole-of q h = sym (ratio-parts q) ∙ ap (ratio q.num) (eqb-true _ _ h)

-- ---- a <= b + k, a < b + k, a = b + k
pub le-difference : (k : ℤ) (a b : ℚ) → a ≤ℚ (b +ℚ whole k) → (a -ℚ b) ≤ℚ whole k
le-difference k = by_common2 (λ a b. a ≤ℚ (b +ℚ whole k) → (a -ℚ b) ≤ℚ whole k) (λ j m n g.
    let g2 = simp (whole_at k j, at_one) at g in simp (whole_at k j, at_one) (omega (arith, fractions)))

pub difference-le : (k : ℤ) (a b : ℚ) → (a -ℚ b) ≤ℚ whole k → a ≤ℚ (b +ℚ whole k)
difference-le k = by_common2 (λ a b. (a -ℚ b) ≤ℚ whole k → a ≤ℚ (b +ℚ whole k)) (λ j m n g.
    let g2 = simp (whole_at k j, at_one) at g in simp (whole_at k j, at_one) (omega (arith, fractions)))

pub eq-difference : (k : ℤ) (a b : ℚ) → a ≡ b +ℚ whole k → a -ℚ b ≡ whole k
eq-difference k = by_common2 (λ a b. a ≡ b +ℚ whole k → a -ℚ b ≡ whole k) (λ j m n g.
    let g2 = simp (whole_at k j, at_one) at g in simp (whole_at k j, at_one) (omega (arith, fractions)))

pub difference-eq : (k : ℤ) (a b : ℚ) → a -ℚ b ≡ whole k → a ≡ b +ℚ whole k
difference-eq k = by_common2 (λ a b. a -ℚ b ≡ whole k → a ≡ b +ℚ whole k) (λ j m n g.
    let g2 = simp (whole_at k j, at_one) at g in simp (whole_at k j, at_one) (omega (arith, fractions)))

-- ---- sums and negations of whole numbers
pub whole-+ : (m n : ℤ) → whole m +ℚ whole n ≡ whole (m +ℤ n)
unfolding whole
whole-+ m n = ratio-+ m n 1 (omega arith)

pub neg-whole : (n : ℤ) → neg_ℚ (whole n) ≡ whole (neg_ℤ n)
unfolding whole
neg-whole n = ratio-neg n 1 (omega arith)

pub whole-minus : (m n : ℤ) → whole m -ℚ whole n ≡ whole (m -ℤ n)
whole-minus m n = ap (λ x. whole m +ℚ x) (neg-whole n) ∙ whole-+ m (neg_ℤ n) ∙ ap whole (let e : m +ℤ neg_ℤ n ≡ m -ℤ n = omega (arith, ints) in e)

whole-≤ : (m n : ℤ) → m ≤ℤ n → whole m ≤ℚ whole n
unfolding whole
whole-≤ m n h = ratio-≤ m n 1 (omega arith) h

whole-< : (m n : ℤ) → m <ℤ n → whole m <ℚ whole n
unfolding whole
whole-< m n h = ratio-< m n 1 (omega arith) h

whole-≤_out : (m n : ℤ) → whole m ≤ℚ whole n → m ≤ℤ n
unfolding whole
whole-≤_out m n h = ratio-≤_out m n 1 (omega arith) h

whole-<_out : (m n : ℤ) → whole m <ℚ whole n → m <ℤ n
unfolding whole
whole-<_out m n h = ratio-<_out m n 1 (omega arith) h

-- on whole numbers a strict bound is the bound less one
whole-lt : (k m n : ℤ) → whole m <ℚ (whole n +ℚ whole k) → (whole m -ℚ whole n) ≤ℚ whole (k -ℤ pos 1)
whole-lt k m n g =
    let h = whole-<_out m (n +ℤ k) (subst (λ x. whole m <ℚ x) (whole-+ n k) g) in
    subst (λ x. x ≤ℚ whole (k -ℤ pos 1)) (sym (whole-minus m n)) (whole-≤ (m -ℤ n) (k -ℤ pos 1) (omega (arith, ints)))

lt-whole : (k m n : ℤ) → (whole m -ℚ whole n) ≤ℚ whole (k -ℤ pos 1) → whole m <ℚ (whole n +ℚ whole k)
lt-whole k m n g =
    let h = whole-≤_out (m -ℤ n) (k -ℤ pos 1) (subst (λ x. x ≤ℚ whole (k -ℤ pos 1)) (whole-minus m n) g) in
    subst (λ x. whole m <ℚ x) (sym (whole-+ n k)) (whole-< m (n +ℤ k) (omega (arith, ints)))

pub lt-difference : (k : ℤ) (a b : ℚ) → is_whole a ≡ true → is_whole b ≡ true → a <ℚ (b +ℚ whole k) → (a -ℚ b) ≤ℚ whole (k -ℤ pos 1)
lt-difference k a b p q =
    subst (λ x. x <ℚ (b +ℚ whole k) → (x -ℚ b) ≤ℚ whole (k -ℤ pos 1)) (sym (whole-of a p))
    (subst (λ y. whole a.num <ℚ (y +ℚ whole k) → (whole a.num -ℚ y) ≤ℚ whole (k -ℤ pos 1)) (sym (whole-of b q)) (whole-lt k a.num b.num))

pub difference-lt : (k : ℤ) (a b : ℚ) → is_whole a ≡ true → is_whole b ≡ true → (a -ℚ b) ≤ℚ whole (k -ℤ pos 1) → a <ℚ (b +ℚ whole k)
difference-lt k a b p q =
    subst (λ x. (x -ℚ b) ≤ℚ whole (k -ℤ pos 1) → x <ℚ (b +ℚ whole k)) (sym (whole-of a p))
    (subst (λ y. (whole a.num -ℚ y) ≤ℚ whole (k -ℤ pos 1) → whole a.num <ℚ (y +ℚ whole k)) (sym (whole-of b q)) (lt-whole k a.num b.num))
