-- Sums of products, and the signs of their parts.
use Rattle.std.proofs.Common.{◌≡◌, ℕ, suc, ◌⊎◌, inl, inr, ℤ, pos, ◌+ℤ◌, ◌-ℤ◌, ◌*ℤ◌, ◌≤ℤ◌, refl, sym, ◌∙◌, ap, arith, List, [], ◌∷◌, length, get_or, neg_ℤ}
use Rattle.std.proofs.lemmas.Int.{ints}
use borrow.Author.Differences.{same_in, neg_is}
use Rattle.hp_math.specs.Rational.{ℚ, ratio, whole, ◌+ℚ◌, ◌*ℚ◌, ◌-ℚ◌, ◌≤ℚ◌, ◌<ℚ◌}
use Rattle.hp_math.proofs.Whole.{*ℤ_assoc, *ℤ-+ℤ, +ℤ-*ℤ, *ℤ_mono_nonneg, up-*ℤ, down-*ℤ}
use Rattle.hp_math.proofs.Field.{by_common1, by_common2, at_one, fractions, whole_at, whole_times_at, ≤ℚ_refl}
use Rattle.hp_math.proofs.Rational.{ratio-inj}
use Rattle.hp_math.proofs.Laws.{by_common4}
use Rattle.hp_rows.specs.Rows.{Values, dot}

pub zero-times : (x : ℚ) → whole (pos 0) *ℚ x ≡ whole (pos 0)
zero-times = by_common1 (λ x. whole (pos 0) *ℚ x ≡ whole (pos 0)) (λ k a. rw (whole_times_at (pos 0) a k, whole_at (pos 0) k) (omega (arith, fractions)))

pub times-zero : (n : ℤ) → whole n *ℚ whole (pos 0) ≡ whole (pos 0)
times-zero n =
    ap (λ z. whole n *ℚ z) (whole_at (pos 0) 0) ∙ whole_times_at n (pos 0 *ℤ pos 1) 0
    ∙ ap (λ z. ratio z 1) (let s : n *ℤ (pos 0 *ℤ pos 1) ≡ pos 0 *ℤ pos 1 = omega (arith, ints) in s) ∙ sym (whole_at (pos 0) 0)

-- a sum of parts that are not over 0
add_le : (x y : ℚ) → x ≤ℚ whole (pos 0) → y ≤ℚ whole (pos 0) → x +ℚ y ≤ℚ whole (pos 0)
add_le = by_common2 (λ x y. x ≤ℚ whole (pos 0) → y ≤ℚ whole (pos 0) → x +ℚ y ≤ℚ whole (pos 0)) (λ k a b g h.
    let g2 = simp (whole_at (pos 0) k) at g in
    let h2 = simp (whole_at (pos 0) k) at h in
    simp (whole_at (pos 0) k, at_one) (omega (arith, fractions)))

pub dot_le : (ms : List ℤ) (x : Values) → ((i : ℕ) → whole (get_or ms i (pos 0)) *ℚ x i ≤ℚ whole (pos 0)) → dot ms x ≤ℚ whole (pos 0)
dot_le [] x h = ≤ℚ_refl (whole (pos 0))
dot_le (m ∷ ms) x h = add_le (whole m *ℚ x 0) (dot ms (λ k. x (suc k))) (h 0) (dot_le ms (λ k. x (suc k)) (λ i. h (suc i)))

-- a product by its signs
pub low_times : (m : ℤ) (x : ℚ) → pos 0 ≤ℤ m → x ≤ℚ whole (pos 0) → whole m *ℚ x ≤ℚ whole (pos 0)
low_times m = by_common1 (λ x. pos 0 ≤ℤ m → x ≤ℚ whole (pos 0) → whole m *ℚ x ≤ℚ whole (pos 0)) (λ k a p h.
    let h2 = simp (whole_at (pos 0) k) at h in
    let q : a ≤ℤ pos 0 = omega (arith, fractions) in
    let r = *ℤ_mono_nonneg a (pos 0) m q p in
    simp (whole_times_at, whole_at (pos 0) k) (omega (arith, fractions)))

pub high_times : (m : ℤ) (x : ℚ) → m ≤ℤ pos 0 → whole (pos 0) ≤ℚ x → whole m *ℚ x ≤ℚ whole (pos 0)
high_times m = by_common1 (λ x. m ≤ℤ pos 0 → whole (pos 0) ≤ℚ x → whole m *ℚ x ≤ℚ whole (pos 0)) (λ k a p h.
    let h2 = simp (whole_at (pos 0) k) at h in
    let q : pos 0 ≤ℤ a = omega (arith, fractions) in
    let r = *ℤ_mono_nonneg m (pos 0) a p q in
    simp (whole_times_at, whole_at (pos 0) k) (omega (arith, fractions)))

pub none_times : (m : ℤ) (x : ℚ) → (m ≡ pos 0) ⊎ (x ≡ whole (pos 0)) → whole m *ℚ x ≤ℚ whole (pos 0)
none_times m x (inl e) = rw e (rw (zero-times x) (≤ℚ_refl (whole (pos 0))))
none_times m x (inr e) = rw e (rw (times-zero m) (≤ℚ_refl (whole (pos 0))))

-- what is over the bound, by the three ways to stand to it
pub under : (x y : ℚ) → x ≤ℚ y → x -ℚ y ≤ℚ whole (pos 0)
under = by_common2 (λ x y. x ≤ℚ y → x -ℚ y ≤ℚ whole (pos 0)) (λ k a b h. simp (whole_at (pos 0) k, at_one) (omega (arith, fractions)))

pub at : (x y : ℚ) → x ≡ y → x -ℚ y ≡ whole (pos 0)
at = by_common2 (λ x y. x ≡ y → x -ℚ y ≡ whole (pos 0)) (λ k a b h. simp (whole_at (pos 0) k, at_one) (omega (arith, fractions)))

pub over : (x y : ℚ) → y <ℚ x → whole (pos 0) <ℚ x -ℚ y
over = by_common2 (λ x y. y <ℚ x → whole (pos 0) <ℚ x -ℚ y) (λ k a b h. simp (whole_at (pos 0) k, at_one) (omega (arith, fractions)))

pub lt_le : (x y : ℚ) → x <ℚ y → x ≤ℚ y
lt_le = by_common2 (λ x y. x <ℚ y → x ≤ℚ y) (λ k a b h. omega (arith, fractions))

-- ---- one step of an elimination, on the sums
step_whole : (k d c o r g a o2 r2 g2 : ℤ) → k *ℤ o ≡ (d *ℤ r) -ℤ (c *ℤ g) → k *ℤ o2 ≡ (d *ℤ r2) -ℤ (c *ℤ g2)
    → k *ℤ ((o *ℤ a) +ℤ o2) ≡ (d *ℤ ((r *ℤ a) +ℤ r2)) -ℤ (c *ℤ ((g *ℤ a) +ℤ g2))
step_whole k d c o r g a o2 r2 g2 e f =
    let t : (k *ℤ o) *ℤ a ≡ ((d *ℤ r) *ℤ a) -ℤ ((c *ℤ g) *ℤ a) = ap (λ z. z *ℤ a) e ∙ +ℤ-*ℤ (d *ℤ r) (neg_ℤ (c *ℤ g)) a ∙ omega (arith, ints, neg-*ℤ (c *ℤ g) a) in
    omega (arith, ints, t, f, *ℤ-+ℤ k (o *ℤ a) o2, *ℤ-+ℤ d (r *ℤ a) r2, *ℤ-+ℤ c (g *ℤ a) g2, *ℤ_assoc k o a, *ℤ_assoc d r a, *ℤ_assoc c g a)
  where
    neg-*ℤ : (x y : ℤ) → neg_ℤ x *ℤ y ≡ neg_ℤ (x *ℤ y)
    neg-*ℤ x y = let m = neg_is x in let n = neg_is (x *ℤ y) in same_in _ _ (rw (n.0, n.1) (simp (up-*ℤ, down-*ℤ) (rw (m.0, m.1) (omega arith))))

step_sum : (k d c o r g : ℤ) → k *ℤ o ≡ (d *ℤ r) -ℤ (c *ℤ g) → (x p q s : ℚ)
    → whole k *ℚ p ≡ (whole d *ℚ q) -ℚ (whole c *ℚ s)
    → whole k *ℚ ((whole o *ℚ x) +ℚ p) ≡ (whole d *ℚ ((whole r *ℚ x) +ℚ q)) -ℚ (whole c *ℚ ((whole g *ℚ x) +ℚ s))
step_sum k d c o r g e = by_common4 (λ x p q s. whole k *ℚ p ≡ (whole d *ℚ q) -ℚ (whole c *ℚ s)
    → whole k *ℚ ((whole o *ℚ x) +ℚ p) ≡ (whole d *ℚ ((whole r *ℚ x) +ℚ q)) -ℚ (whole c *ℚ ((whole g *ℚ x) +ℚ s)))
    (λ n a o2 r2 g2 f.
    let f2 = simp at_one at f in
    let f3 : k *ℤ o2 ≡ (d *ℤ r2) -ℤ (c *ℤ g2) = ratio-inj _ _ (suc n) (omega arith) f2 ∙ omega (arith, ints) in
    let t = step_whole k d c o r g a o2 r2 g2 e f3 in
    simp at_one (ap (λ z. ratio z (suc n)) (t ∙ omega (arith, ints))))

pub dot_step : (k d c : ℤ) (os rs gs : List ℤ) → length os ≡ length rs → length gs ≡ length rs
    → ((i : ℕ) → k *ℤ get_or os i (pos 0) ≡ (d *ℤ get_or rs i (pos 0)) -ℤ (c *ℤ get_or gs i (pos 0)))
    → (x : Values) → whole k *ℚ dot os x ≡ (whole d *ℚ dot rs x) -ℚ (whole c *ℚ dot gs x)
dot_step k d c [] [] [] p q h x = rw (times-zero k, times-zero d, times-zero c) (sym (at (whole (pos 0)) (whole (pos 0)) refl))
dot_step k d c [] [] (g ∷ gs) p q h x = absurd (omega arith)
dot_step k d c [] (r ∷ rs) gs p q h x = absurd (omega arith)
dot_step k d c (o ∷ os) [] gs p q h x = absurd (omega arith)
dot_step k d c (o ∷ os) (r ∷ rs) [] p q h x = absurd (omega arith)
dot_step k d c (o ∷ os) (r ∷ rs) (g ∷ gs) p q h x =
    step_sum k d c o r g (h 0) (x 0) (dot os (λ i. x (suc i))) (dot rs (λ i. x (suc i))) (dot gs (λ i. x (suc i)))
    (dot_step k d c os rs gs (omega arith) (omega arith) (λ i. h (suc i)) (λ i. x (suc i)))
