-- Whole numbers among the fractions: their sums, differences and opposites are whole, and 0 is a pointer.
use Rattle.std.proofs.Common.{◌≡◌, ℕ, ◌<◌, true, ◌&&◌, ℤ, pos, neg_ℤ, ◌+ℤ◌, sym, ap, subst, ◌∙◌, arith}
use Rattle.std.proofs.lemmas.Int.{ints}
use Rattle.std.proofs.lemmas.Bool.{eqb-true, eq-eqb}
use Rattle.hp_math.specs.Rational.{ℚ, ratio, whole, ◌+ℚ◌, ◌-ℚ◌, neg_ℚ, is_whole, le_ℚ, lt_ℚ}
use Rattle.hp_math.proofs.Rational.{ratio-kept, ratio-parts, ratio-neg, ratio-+, ratio-≤, ratio-<}
use Rattle.hp_tree.specs.declared.problem.Sort.TheVariants.{Ptr}
use Rattle.hp_tree.specs.Sorted.{is_of_sort}
use Rattle.hp_tree.proofs.Compares.{le_ℚ-from, lt_ℚ-from}

pub whole-whole : (n : ℤ) → is_whole (whole n) ≡ true
unfolding whole
whole-whole n = eq-eqb _ _ (ratio-kept n 1 (omega arith) (λ e p l h. omega arith)).1

whole-of : (q : ℚ) → is_whole q ≡ true → q ≡ whole q.num
unfolding whole
whole-of q h = sym (ratio-parts q) ∙ ap (ratio q.num) (eqb-true _ _ h)

sum-of : (m n : ℤ) → whole m +ℚ whole n ≡ whole (m +ℤ n)
unfolding whole
sum-of m n = ratio-+ m n 1 (omega arith)

opposite-of : (n : ℤ) → neg_ℚ (whole n) ≡ whole (neg_ℤ n)
unfolding whole
opposite-of n = ratio-neg n 1 (omega arith)

pub whole_sum : (a b : ℚ) → is_whole a ≡ true → is_whole b ≡ true → is_whole (a +ℚ b) ≡ true
whole_sum a b p q =
    let is : a +ℚ b ≡ whole (a.num +ℤ b.num) = (λ i. whole-of a p i +ℚ whole-of b q i) ∙ sum-of a.num b.num in
    subst (λ x. is_whole x ≡ true) (sym is) (whole-whole (a.num +ℤ b.num))

pub whole_opposite : (a : ℚ) → is_whole a ≡ true → is_whole (neg_ℚ a) ≡ true
whole_opposite a p =
    let is : neg_ℚ a ≡ whole (neg_ℤ a.num) = ap neg_ℚ (whole-of a p) ∙ opposite-of a.num in
    subst (λ x. is_whole x ≡ true) (sym is) (whole-whole (neg_ℤ a.num))

pub whole_difference : (a b : ℚ) → is_whole a ≡ true → is_whole b ≡ true → is_whole (a -ℚ b) ≡ true
whole_difference a b p q = whole_sum a (neg_ℚ b) p (whole_opposite b q)

zero_least : le_ℚ (whole (pos 0)) (whole (pos 0)) ≡ true
unfolding whole
zero_least = le_ℚ-from _ _ (ratio-≤ (pos 0) (pos 0) 1 (omega arith) (omega (arith, ints)))

zero_below : (size : ℕ) → 0 < size → lt_ℚ (whole (pos 0)) (whole (pos size)) ≡ true
unfolding whole
zero_below size p = lt_ℚ-from _ _ (ratio-< (pos 0) (pos size) 1 (omega arith) (omega (arith, ints)))

-- null is a pointer in each universe that has one
pub null_pointer : (size : ℕ) → 0 < size → is_of_sort size Ptr (whole (pos 0)) ≡ true
null_pointer size p = λ i. (whole-whole (pos 0) i && zero_least i) && zero_below size p i
