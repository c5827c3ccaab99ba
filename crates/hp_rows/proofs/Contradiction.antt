-- A line without coefficients that the last row of a chain has left is a contradiction.
use Rattle.std.proofs.Common.{◌≡◌, ℕ, zero, suc, ◌<◌, inl, inr, ℤ, pos, negsuc, ◌+ℤ◌, ◌-ℤ◌, ◌*ℤ◌, neg_ℤ, ◌<ℤ◌, refl, sym, ◌∙◌, ap, subst, arith, List, [], ◌∷◌, length, get_or, drop, get_or-drop, length-drop, nat_eq, cond}
use Rattle.std.proofs.lemmas.Int.{ints}
use Rattle.std.proofs.lemmas.Bool.{eq-eqb, ne_eqb}
use Rattle.hp_math.specs.Rational.{ℚ, whole, ◌+ℚ◌, ◌*ℚ◌, ◌-ℚ◌, neg_ℚ, ◌<ℚ◌}
use Rattle.hp_math.proofs.Whole.{*ℤ-+ℤ, *ℤ_smono, up-*ℤ, down-*ℤ}
use borrow.Author.Differences.{same_in, neg_is}
use Rattle.hp_math.proofs.Rational.{ratio-<_out}
use Rattle.hp_math.proofs.Laws.{whole-inj, whole-*}
use Rattle.hp_math.proofs.Field.{by_common1, sum_at, neg_at, fractions, whole_at, whole_times_at, +ℚ_zero, <-write}
use Rattle.hp_rows.specs.declared.row.Row.{Row}
use Rattle.hp_rows.specs.Rows.{Values, dot, IsChain, Among, times_at, AreNotNegative, IsContradiction, sum_of, sum_column, sum_bounds, gaps}
use Rattle.hp_rows.specs.Lines.{Line, entry}
use Rattle.hp_rows.proofs.Dot.{zero-times, times-zero, over}
use Rattle.hp_rows.proofs.Lines.{begin, own, dot_none, dot_others, dot_single, IsReduced, at_chain, times_of_line, swap_z, zero_plus}
use Rattle.hp_rows.proofs.Positive.{chain_is_positive}

-- without coefficients the sum is the same at all values
flat : (w : ℕ) (l : Line) (v : Values) → ((i : ℕ) → i < w → entry l i ≡ pos 0) → dot l (own w v) ≡ whole (entry l w) *ℚ whole (negsuc 0)
unfolding own begin
flat w [] v h = sym (zero-times (whole (negsuc 0)))
flat zero (z ∷ zs) v h = ap (λ x. (whole z *ℚ whole (negsuc 0)) +ℚ x) (dot_none zs) ∙ +ℚ_zero _
flat (suc w) (z ∷ zs) v h =
    (λ i. (ap (λ y. whole y *ℚ v 0) (h 0 (omega arith)) ∙ zero-times (v 0)) i +ℚ flat w zs (λ k. v (suc k)) (λ i l. h (suc i) (omega arith)) i) ∙ zero_plus _

product_positive : (z : ℤ) (x : ℚ) → pos 0 <ℤ z → whole (pos 0) <ℚ x → whole (pos 0) <ℚ whole z *ℚ x
product_positive (negsuc n) x p h = absurd (omega (arith, ints))
product_positive (pos n) x p h = by_common1 (λ x. whole (pos 0) <ℚ x → whole (pos 0) <ℚ whole (pos n) *ℚ x) (λ k a g.
    let g2 = simp (whole_at (pos 0) k) at g in
    let u = *ℤ_smono (pos 0) a n (omega (arith, ints)) (omega (arith, fractions)) in
    rw (whole_times_at (pos n) a k, whole_at (pos 0) k) (<-write _ _ k (omega (arith, ints, u, swap_z a (pos n))))) x h

-- ---- whole numbers among the fractions
whole-+ : (x y : ℤ) → whole x +ℚ whole y ≡ whole (x +ℤ y)
unfolding whole
whole-+ x y = sum_at x y 0

whole-neg : (x : ℤ) → neg_ℚ (whole x) ≡ whole (neg_ℤ x)
unfolding whole
whole-neg x = neg_at x 0

whole-pos : (x : ℤ) → whole (pos 0) <ℚ whole x → pos 0 <ℤ x
unfolding whole
whole-pos x h = ratio-<_out (pos 0) x 1 (omega arith) h

pub *ℤ-neg : (a b : ℤ) → a *ℤ neg_ℤ b ≡ neg_ℤ (a *ℤ b)
*ℤ-neg a b = let m = neg_is b in let n = neg_is (a *ℤ b) in same_in _ _ (rw (n.0, n.1) (simp (up-*ℤ, down-*ℤ) (rw (m.0, m.1) (omega arith))))

one_more : (m F b S B : ℤ) → (whole m *ℚ (whole F -ℚ whole b)) +ℚ (whole S -ℚ whole B) ≡ whole ((m *ℤ F) +ℤ S) -ℚ whole ((m *ℤ b) +ℤ B)
one_more m F b S B = simp (whole-neg, whole-+, whole-*) (ap whole (omega (arith, ints, *ℤ-+ℤ m F (neg_ℤ b), *ℤ-neg m b)))

-- at values with these left sides
dot_sum : (f : Row → ℤ) (v : Values) → ((r : Row) → dot r.coefs v ≡ whole (f r)) → (ms : List ℤ) (rows : List Row) → length ms ≡ length rows
    → dot ms (gaps rows v) ≡ whole (sum_of f ms rows) -ℚ whole (sum_of (λ r. r.bound) ms rows)
dot_sum f v h [] rows e = simp (whole-neg, whole-+) (ap whole (omega (arith, ints)))
dot_sum f v h (m ∷ ms) [] e = absurd (omega arith)
dot_sum f v h (m ∷ ms) (r ∷ rs) e =
    (λ i. (whole m *ℚ (h r i -ℚ whole r.bound)) +ℚ dot_sum f v h ms rs (omega arith) i)
    ∙ one_more m (f r) r.bound (sum_of f ms rs) (sum_of (λ r. r.bound) ms rs)

sum_none : (ms : List ℤ) (rows : List Row) → sum_of (λ r. pos 0) ms rows ≡ pos 0
sum_none [] rows = refl
sum_none (m ∷ ms) [] = refl
sum_none (m ∷ ms) (r ∷ rs) = (let e = sum_none ms rs in omega (arith, ints))

unit : ℕ → Values
unit k i = cond (nat_eq i k) (whole (pos 1)) (whole (pos 0))

dot_unit : (k : ℕ) (cs : List ℤ) → dot cs (unit k) ≡ whole (get_or cs k (pos 0))
unfolding unit
dot_unit k cs =
    dot_single cs (λ i. cond (nat_eq i k) (whole (pos 1)) (whole (pos 0))) k (λ i n. ap (λ b. whole (get_or cs i (pos 0)) *ℚ cond b (whole (pos 1)) (whole (pos 0))) (ne_eqb i k n) ∙ times-zero _)
    ∙ ap (λ b. whole (get_or cs k (pos 0)) *ℚ cond b (whole (pos 1)) (whole (pos 0))) (eq-eqb k k refl)
    ∙ whole-* (get_or cs k (pos 0)) (pos 1) ∙ ap whole (omega (arith, ints))

-- ---- the contradiction
pub record Contradicts (w : ℕ) (rows : List Row) (chain : List ℕ) (times : List ℤ) : Type 0 where
  pub contradiction : IsContradiction w rows times
  pub positive : (i : ℕ) → Among chain i → pos 0 <ℤ times_at times i
  pub none_negative : AreNotNegative times

module _ (rows : List Row) (w : ℕ) (es : List ℕ) (gs : List Line) (e : ℕ) (l : Line) (r : IsReduced rows w es gs e l) (c : IsChain rows (e ∷ es))
    (bare : (i : ℕ) → i < w → entry l i ≡ pos 0) where
  X : ℚ
  X = whole (entry l w) *ℚ whole (negsuc 0)

  above_zero : whole (pos 0) <ℚ X
  unfolding X
  above_zero = subst (λ z. whole (pos 0) <ℚ z) (sym (at_chain rows w es gs e l r c.0.values c.0.meets) ∙ flat w l c.0.values bare)
      (product_positive (times_of_line w l e) (gaps rows c.0.values e) r.mine (over _ _ c.0.breaks.gt))

  same : (v : Values) → dot (drop (suc w) l) (gaps rows v) ≡ X
  unfolding X
  same v = sym (r.line.sum v ∙ dot_others w l (gaps rows v)) ∙ flat w l v bare

  count : length (drop (suc w) l) ≡ length rows
  count = length-drop (suc w) l ∙ (let s = r.line.size in omega arith)

  positives : ((i : ℕ) → Among (e ∷ es) i → pos 0 <ℤ times_at (drop (suc w) l) i) × AreNotNegative (drop (suc w) l)
  positives = chain_is_positive rows (e ∷ es) (drop (suc w) l) c
      (λ v. subst (λ z. whole (pos 0) <ℚ z) (sym (same v)) above_zero)
      (λ i. elim (r.line.only i) [ inl a ↦ inl a | inr z ↦ inr (get_or-drop (suc w) l i (pos 0) ∙ z) ])

  bounds : X ≡ whole (neg_ℤ (sum_bounds (drop (suc w) l) rows))
  bounds = sym (same (λ k. whole (pos 0)))
      ∙ dot_sum (λ r. pos 0) (λ k. whole (pos 0)) (λ r. dot_none r.coefs) (drop (suc w) l) rows count
      ∙ (λ i. whole (sum_none (drop (suc w) l) rows i) -ℚ whole (sum_bounds (drop (suc w) l) rows))
      ∙ simp (whole-neg, whole-+) (ap whole (omega (arith, ints)))

  column : (k : ℕ) → sum_column k (drop (suc w) l) rows ≡ pos 0
  column k =
      let ms = drop (suc w) l in
      let t : whole (sum_column k ms rows -ℤ sum_bounds ms rows) ≡ whole (neg_ℤ (sum_bounds ms rows)) =
      sym (ap (λ z. whole (sum_column k ms rows) +ℚ z) (whole-neg (sum_bounds ms rows)) ∙ whole-+ (sum_column k ms rows) (neg_ℤ (sum_bounds ms rows)))
      ∙ sym (dot_sum (λ r. get_or r.coefs k (pos 0)) (unit k) (λ r. dot_unit k r.coefs) ms rows count) ∙ same (unit k) ∙ bounds in
      nothing_left (sum_column k ms rows) (sum_bounds ms rows) (whole-inj _ _ t)
    where
      nothing_left : (s b : ℤ) → s -ℤ b ≡ neg_ℤ b → s ≡ pos 0
      nothing_left s b e = omega (arith, ints)

  pub contradicts : Contradicts w rows (e ∷ es) (drop (suc w) l)
  contradicts = record {
    contradiction = record {
      count = count;
      columns = λ k h. column k;
      bound = below_it (sum_bounds (drop (suc w) l) rows) (whole-pos _ (subst (λ z. whole (pos 0) <ℚ z) bounds above_zero));
    };
    positive = positives.0;
    none_negative = positives.1;
  }
    where
      below_it : (b : ℤ) → pos 0 <ℤ neg_ℤ b → b <ℤ pos 0
      below_it b h = omega (arith, ints)
