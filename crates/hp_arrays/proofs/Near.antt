-- Bounds on the difference of two indexes where one of them, or both, go to the nearest number of a list.
use Rattle.std.proofs.Common.{◌≡◌, ℤ, pos, neg_ℤ, List, true, refl, sym, ap, subst, ◌∙◌, arith}
use Rattle.std.specs.List.{Contains}
use Rattle.hp_math.specs.Rational.{ℚ, whole, ◌+ℚ◌, ◌-ℚ◌, ◌≤ℚ◌, is_whole}
use Rattle.hp_math.proofs.Field.{by_common2, by_common3, at_one, fractions, whole_at, +ℚ-neg_ℚ, le_ℚ-true}
use Rattle.hp_math.proofs.Laws.{whole-neg}
use Rattle.hp_tree.specs.declared.problem.Cmp.TheVariants.{Le, Ge}
use Rattle.hp_tree.proofs.Compares.{le_ℚ-from}
use Rattle.hp_terms.proofs.Whole.{whole-whole, whole_sum}
use Rattle.hp_local.specs.Nearest.{nearest}
use Rattle.hp_local.proofs.Nearest.{guards_are_kept, nearest_keeps_numbers, nearest_keeps_order}

-- ---- differences
over_right : (a b c : ℚ) → (a -ℚ b) ≤ℚ c → a ≤ℚ (b +ℚ c)
over_right = by_common3 (λ a b c. (a -ℚ b) ≤ℚ c → a ≤ℚ (b +ℚ c)) (λ k l m n g. (let h = simp at_one at g in simp at_one (omega (arith, fractions))))

back_right : (a b c : ℚ) → a ≤ℚ (b +ℚ c) → (a -ℚ b) ≤ℚ c
back_right = by_common3 (λ a b c. a ≤ℚ (b +ℚ c) → (a -ℚ b) ≤ℚ c) (λ k l m n g. (let h = simp at_one at g in simp at_one (omega (arith, fractions))))

over_left : (a b c : ℚ) → (a -ℚ b) ≤ℚ c → (a -ℚ c) ≤ℚ b
over_left = by_common3 (λ a b c. (a -ℚ b) ≤ℚ c → (a -ℚ c) ≤ℚ b) (λ k l m n g. (let h = simp at_one at g in simp at_one (omega (arith, fractions))))

same_right : (a b c : ℚ) → a -ℚ b ≡ c → a ≡ b +ℚ c
same_right = by_common3 (λ a b c. a -ℚ b ≡ c → a ≡ b +ℚ c) (λ k l m n g. (let h = simp at_one at g in simp at_one (omega (arith, fractions))))

same_left : (a b c : ℚ) → a -ℚ b ≡ c → b ≡ a -ℚ c
same_left = by_common3 (λ a b c. a -ℚ b ≡ c → b ≡ a -ℚ c) (λ k l m n g. (let h = simp at_one at g in simp at_one (omega (arith, fractions))))

to_zero : (a b : ℚ) → a ≤ℚ b → (a -ℚ b) ≤ℚ whole (pos 0)
to_zero = by_common2 (λ a b. a ≤ℚ b → (a -ℚ b) ≤ℚ whole (pos 0)) (λ k l m g. simp (whole_at (pos 0) k, at_one) (omega (arith, fractions)))

of_zero : (a b : ℚ) → (a -ℚ b) ≤ℚ whole (pos 0) → a ≤ℚ b
of_zero = by_common2 (λ a b. (a -ℚ b) ≤ℚ whole (pos 0) → a ≤ℚ b) (λ k l m g. (let h = simp (whole_at (pos 0) k, at_one) at g in omega (arith, fractions)))

same_zero : (a b : ℚ) → a -ℚ b ≡ whole (pos 0) → a ≡ b
same_zero = by_common2 (λ a b. a -ℚ b ≡ whole (pos 0) → a ≡ b) (λ k l m g. (let h = simp (whole_at (pos 0) k, at_one) at g in omega (arith, fractions)))

-- ---- the nearest of these
module _ (is : List ℚ) where
  -- of both sides
  pub both_at_most : (a b : ℚ) → (a -ℚ b) ≤ℚ whole (pos 0) → (nearest is a -ℚ nearest is b) ≤ℚ whole (pos 0)
  both_at_most a b h = to_zero (nearest is a) (nearest is b) (nearest_keeps_order is a b (of_zero a b h))

  pub both_same : (a b : ℚ) → a -ℚ b ≡ whole (pos 0) → nearest is a -ℚ nearest is b ≡ whole (pos 0)
  both_same a b h = ap (λ x. nearest is x -ℚ nearest is b) (same_zero a b h) ∙ +ℚ-neg_ℚ (nearest is b)

  module _ (a b : ℚ) (k : ℤ) where
    -- of the left side
    pub left_at_most : is_whole a ≡ true → is_whole b ≡ true → Contains is (b +ℚ whole k) → (a -ℚ b) ≤ℚ whole k → (nearest is a -ℚ b) ≤ℚ whole k
    left_at_most p q m h =
        let c = b +ℚ whole k in
        let kept = guards_are_kept is Le a c refl p (whole_sum b (whole k) q (whole-whole k)) m (le_ℚ-from a c (over_right a b (whole k) h)) in
        back_right (nearest is a) b (whole k) (le_ℚ-true (nearest is a) c kept)

    pub left_same : Contains is (b +ℚ whole k) → a -ℚ b ≡ whole k → nearest is a -ℚ b ≡ whole k
    left_same m h =
        let is_sum = same_right a b (whole k) h in
        let kept : nearest is a ≡ a = ap (nearest is) is_sum ∙ nearest_keeps_numbers is (b +ℚ whole k) m ∙ sym is_sum in
        ap (λ x. x -ℚ b) kept ∙ h

    -- of the right side
    less : a +ℚ whole (neg_ℤ k) ≡ a -ℚ whole k
    less = ap (λ x. a +ℚ x) (sym (whole-neg k))

    pub right_at_most : is_whole a ≡ true → is_whole b ≡ true → Contains is (a +ℚ whole (neg_ℤ k)) → (a -ℚ b) ≤ℚ whole k → (a -ℚ nearest is b) ≤ℚ whole k
    right_at_most p q m h =
        let c = a +ℚ whole (neg_ℤ k) in
        let at = subst (λ x. x ≤ℚ b) (sym less) (over_left a b (whole k) h) in
        let kept = guards_are_kept is Ge b c refl q (whole_sum a (whole (neg_ℤ k)) p (whole-whole (neg_ℤ k))) m (le_ℚ-from c b at) in
        over_left a (whole k) (nearest is b) (subst (λ x. x ≤ℚ nearest is b) less (le_ℚ-true c (nearest is b) kept))

    pub right_same : Contains is (a +ℚ whole (neg_ℤ k)) → a -ℚ b ≡ whole k → a -ℚ nearest is b ≡ whole k
    right_same m h =
        let is_difference : b ≡ a +ℚ whole (neg_ℤ k) = same_left a b (whole k) h ∙ sym less in
        let kept : nearest is b ≡ b = ap (nearest is) is_difference ∙ nearest_keeps_numbers is (a +ℚ whole (neg_ℤ k)) m ∙ sym is_difference in
        ap (λ x. a -ℚ x) kept ∙ h
