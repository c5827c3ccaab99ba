-- A combination of rows that adds to nothing below 0 stands over no values at which the rows hold.
use Rattle.std.proofs.Common.{◌≡◌, ℕ, zero, suc, ◌<◌, inl, inr, ℤ, pos, ◌+ℤ◌, ◌*ℤ◌, neg_ℤ, ◌<ℤ◌, refl, sym, ◌∙◌, ap, subst, arith, List, [], ◌∷◌, length, get_or}
use Rattle.std.proofs.lemmas.Int.{ints}
use Rattle.std.proofs.lemmas.Bool.{cases_lt}
use Rattle.std.proofs.Math.ListN.{get_or-eq_default}
use Rattle.hp_math.specs.Rational.{ℚ, ratio, whole, ◌+ℚ◌, ◌*ℚ◌, ◌-ℚ◌, ◌≤ℚ◌, ◌<ℚ◌}
use Rattle.hp_math.proofs.Whole.{*ℤ_assoc, *ℤ-+ℤ, +ℤ-*ℤ}
use Rattle.hp_math.proofs.Rational.{ratio-<}
use Rattle.hp_math.proofs.Field.{by_common2, by_common3, at_one, fractions, whole_at, +ℚ_zero, <ℚ_irrefl}
use Rattle.hp_rows.specs.declared.row.Row.{Row}
use Rattle.hp_rows.specs.Rows.{Values, dot, times_at, AreWide, sum_column, sum_bounds, gaps}
use Rattle.hp_rows.specs.Laws.{ContradictionsRefute}
use Rattle.hp_rows.proofs.Dot.{dot_le, low_times, none_times, under, over, zero-times, times-zero}
use Rattle.hp_rows.proofs.Contradiction.{*ℤ-neg}

-- the sum of coefficient times value over n columns
columns : ℕ → (ℕ → ℤ) → Values → ℚ
columns zero f v = whole (pos 0)
columns (suc n) f v = (whole (f 0) *ℚ v 0) +ℚ columns n (λ k. f (suc k)) (λ k. v (suc k))

columns_of : (n : ℕ) (cs : List ℤ) (v : Values) → length cs ≡ n → columns n (λ k. get_or cs k (pos 0)) v ≡ dot cs v
unfolding columns
columns_of zero [] v e = refl
columns_of zero (c ∷ cs) v e = absurd (omega arith)
columns_of (suc n) [] v e = absurd (omega arith)
columns_of (suc n) (c ∷ cs) v e = ap (λ q. (whole c *ℚ v 0) +ℚ q) (columns_of n cs (λ k. v (suc k)) (omega arith))

columns_none : (n : ℕ) (f : ℕ → ℤ) (v : Values) → ((k : ℕ) → k < n → f k ≡ pos 0) → columns n f v ≡ whole (pos 0)
unfolding columns
columns_none zero f v h = refl
columns_none (suc n) f v h =
    (λ i. (ap (λ z. whole z *ℚ v 0) (h 0 (omega arith)) ∙ zero-times (v 0)) i +ℚ columns_none n (λ k. f (suc k)) (λ k. v (suc k)) (λ k l. h (suc k) (omega arith)) i)
    ∙ +ℚ_zero (whole (pos 0))

-- ---- one row more, at one column and at its bound
column_whole : (m a b x p q : ℤ) → (((m *ℤ a) +ℤ b) *ℤ x) +ℤ ((m *ℤ p) +ℤ q) ≡ (m *ℤ ((a *ℤ x) +ℤ p)) +ℤ ((b *ℤ x) +ℤ q)
column_whole m a b x p q = omega (arith, ints, +ℤ-*ℤ (m *ℤ a) b x, *ℤ_assoc m a x, *ℤ-+ℤ m (a *ℤ x) p)

one_column : (m a b : ℤ) (x p q : ℚ) → (whole ((m *ℤ a) +ℤ b) *ℚ x) +ℚ ((whole m *ℚ p) +ℚ q) ≡ (whole m *ℚ ((whole a *ℚ x) +ℚ p)) +ℚ ((whole b *ℚ x) +ℚ q)
one_column m a b =
    by_common3 (λ x p q. (whole ((m *ℤ a) +ℤ b) *ℚ x) +ℚ ((whole m *ℚ p) +ℚ q) ≡ (whole m *ℚ ((whole a *ℚ x) +ℚ p)) +ℚ ((whole b *ℚ x) +ℚ q))
    (λ k x p q. simp at_one (ap (λ z. ratio z (suc k)) (column_whole m a b x p q)))

columns_step : (n : ℕ) (m : ℤ) (f g : ℕ → ℤ) (v : Values) → columns n (λ k. (m *ℤ f k) +ℤ g k) v ≡ (whole m *ℚ columns n f v) +ℚ columns n g v
unfolding columns
columns_step zero m f g v = sym (ap (λ q. q +ℚ whole (pos 0)) (times-zero m) ∙ +ℚ_zero (whole (pos 0)))
columns_step (suc n) m f g v =
    ap (λ q. (whole ((m *ℤ f 0) +ℤ g 0) *ℚ v 0) +ℚ q) (columns_step n m (λ k. f (suc k)) (λ k. g (suc k)) (λ k. v (suc k)))
    ∙ one_column m (f 0) (g 0) (v 0) (columns n (λ k. f (suc k)) (λ k. v (suc k))) (columns n (λ k. g (suc k)) (λ k. v (suc k)))

bound_whole : (m b s d c n : ℤ) → (m *ℤ (d +ℤ neg_ℤ (b *ℤ n))) +ℤ (c +ℤ neg_ℤ (s *ℤ n)) ≡ ((m *ℤ d) +ℤ c) +ℤ neg_ℤ (((m *ℤ b) +ℤ s) *ℤ n)
bound_whole m b s d c n = omega (arith, ints, *ℤ-+ℤ m d (neg_ℤ (b *ℤ n)), *ℤ-neg m (b *ℤ n), *ℤ_assoc m b n, +ℤ-*ℤ (m *ℤ b) s n)

one_bound : (m b s : ℤ) (d c : ℚ) → (whole m *ℚ (d -ℚ whole b)) +ℚ (c -ℚ whole s) ≡ ((whole m *ℚ d) +ℚ c) -ℚ whole ((m *ℤ b) +ℤ s)
one_bound m b s =
    by_common2 (λ d c. (whole m *ℚ (d -ℚ whole b)) +ℚ (c -ℚ whole s) ≡ ((whole m *ℚ d) +ℚ c) -ℚ whole ((m *ℤ b) +ℤ s))
    (λ k d c. rw (whole_at b k, whole_at s k, whole_at ((m *ℤ b) +ℤ s) k) (simp at_one (ap (λ z. ratio z (suc k)) (bound_whole m b s d c (pos (suc k))))))

-- ---- the combination at any values
no_gap : whole (pos 0) ≡ whole (pos 0) -ℚ whole (pos 0)
no_gap = by_common2 (λ x y. x ≡ y → y ≡ y -ℚ whole (pos 0)) (λ k a b e. simp (whole_at (pos 0) k, at_one) (omega (arith, fractions))) (whole (pos 0)) (whole (pos 0)) refl

dot_gaps : (w : ℕ) (rows : List Row) (ms : List ℤ) (v : Values) → length ms ≡ length rows → AreWide w rows
    → dot ms (gaps rows v) ≡ columns w (λ k. sum_column k ms rows) v -ℚ whole (sum_bounds ms rows)
dot_gaps w rows [] v e a = no_gap ∙ sym (ap (λ q. q -ℚ whole (pos 0)) (columns_none w (λ k. pos 0) v (λ k l. refl)))
dot_gaps w [] (m ∷ ms) v e a = absurd (omega arith)
dot_gaps w (r ∷ rs) (m ∷ ms) v e a =
    ap (λ q. (whole m *ℚ (dot r.coefs v -ℚ whole r.bound)) +ℚ q) (dot_gaps w rs ms v (omega arith) (λ i l. a (suc i) (omega arith)))
    ∙ one_bound m r.bound (sum_bounds ms rs) (dot r.coefs v) (columns w (λ k. sum_column k ms rs) v)
    ∙ ap (λ q. q -ℚ whole ((m *ℤ r.bound) +ℤ sum_bounds ms rs))
    (sym (columns_step w m (λ k. get_or r.coefs k (pos 0)) (λ k. sum_column k ms rs) v ∙ ap (λ q. (whole m *ℚ q) +ℚ columns w (λ k. sum_column k ms rs) v) (columns_of w r.coefs v (a 0 (omega arith)))))

below_zero : (s : ℤ) → s <ℤ pos 0 → whole s <ℚ whole (pos 0)
unfolding whole
below_zero s h = ratio-< s (pos 0) 1 (omega arith) h

pub contradictions_refute : ContradictionsRefute
contradictions_refute rows w times wide c n v h =
    let e : dot times (gaps rows v) ≡ whole (pos 0) -ℚ whole (sum_bounds times rows) =
    dot_gaps w rows times v c.count wide ∙ ap (λ q. q -ℚ whole (sum_bounds times rows)) (columns_none w (λ k. sum_column k times rows) v c.columns) in
    let above : whole (pos 0) <ℚ dot times (gaps rows v) = subst (λ q. whole (pos 0) <ℚ q) (sym e) (over (whole (pos 0)) (whole (sum_bounds times rows)) (below_zero (sum_bounds times rows) c.bound)) in
    <ℚ_irrefl _ _ above (dot_le times (gaps rows v) part)
  where
    part : (i : ℕ) → whole (times_at times i) *ℚ gaps rows v i ≤ℚ whole (pos 0)
    part i = elim (cases_lt i (length rows)) [
      | inl l ↦ low_times (times_at times i) _ (n i) (under _ _ (h i l).le)
      | inr l ↦ none_times (times_at times i) _ (inl (get_or-eq_default times (pos 0) (let z = c.count in omega arith)))
    ]
