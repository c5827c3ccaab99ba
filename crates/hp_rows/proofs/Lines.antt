-- What a line that was made from rows says of them.
use Rattle.std.proofs.Common.{◌≡◌, ℕ, zero, suc, ◌+◌, ◌<◌, ◌⊎◌, inl, inr, ℤ, pos, negsuc, ◌-ℤ◌, ◌*ℤ◌, neg_ℤ, ◌<ℤ◌, refl, sym, ◌∙◌, ap, arith, List, [], ◌∷◌, ◌++◌, length, get_or, drop, get_or-drop}
use Rattle.std.proofs.lemmas.Int.{ints}
use Rattle.hp_math.specs.Rational.{ℚ, ratio, whole, ◌+ℚ◌, ◌*ℚ◌, ◌-ℚ◌, neg_ℚ}
use Rattle.hp_math.proofs.Field.{by_common1, by_common2, at_one, fractions, whole_at, whole_times_at, +ℚ_zero, +ℚ_comm, +ℚ_assoc}
use Rattle.hp_math.proofs.Whole.{*ℤ_cancel, *ℤ-<_cancel, *ℤ_smono, up-*ℤ, down-*ℤ}
use Rattle.hp_math.proofs.Rational.{ratio-inj}
use borrow.Author.Differences.{same_in, same_out, neg_is, product_is}
use Rattle.hp_rows.specs.declared.row.Row.{Row}
use Rattle.hp_rows.specs.Rows.{Values, dot, MeetsAll, IsBelow, Among, gaps}
use Rattle.hp_rows.specs.Lines.{Line, entry, pivot}
use Rattle.hp_rows.proofs.Dot.{dot_step, zero-times, times-zero}
use Rattle.hp_rows.proofs.Positive.{met, above}

-- ---- the values at which a line is summed
unfoldable pub begin : ℚ → Values → Values
begin a x zero = a
begin a x (suc k) = x k

-- those of the columns, -1 at the bound, and 0 at the multipliers
unfoldable pub own : ℕ → Values → Values
own zero v = begin (whole (negsuc 0)) (λ k. whole (pos 0))
own (suc w) v = begin (v 0) (own w (λ k. v (suc k)))

-- those of the multipliers alone
unfoldable pub others : ℕ → Values → Values
others zero y = begin (whole (pos 0)) y
others (suc w) y = begin (whole (pos 0)) (others w y)

pub dot_none : (ms : List ℤ) → dot ms (λ k. whole (pos 0)) ≡ whole (pos 0)
dot_none [] = refl
dot_none (m ∷ ms) = rw (times-zero m, dot_none ms) (+ℚ_zero (whole (pos 0)))

pub zero_plus : (x : ℚ) → whole (pos 0) +ℚ x ≡ x
zero_plus x = +ℚ_comm (whole (pos 0)) x ∙ +ℚ_zero x

pub dot_others : (w : ℕ) (l : List ℤ) (y : Values) → dot l (others w y) ≡ dot (drop (suc w) l) y
unfolding others begin
dot_others w [] y = refl
dot_others zero (z ∷ zs) y = ap (λ a. a +ℚ dot zs y) (times-zero z) ∙ zero_plus (dot zs y)
dot_others (suc w) (z ∷ zs) y = (λ i. times-zero z i +ℚ dot_others w zs y i) ∙ zero_plus (dot (drop (suc w) zs) y)

minus_times : (b : ℤ) (n : ℤ) → b *ℤ (negsuc 0 *ℤ n) ≡ neg_ℤ (b *ℤ n)
minus_times b n = let m = neg_is (b *ℤ n) in let q = product_is (negsuc 0) n in same_in _ _ (rw (m.0, m.1) (simp (up-*ℤ, down-*ℤ) (omega arith)))

pub minus_one : (x : ℚ) (b : ℤ) → x +ℚ ((whole b *ℚ whole (negsuc 0)) +ℚ whole (pos 0)) ≡ x -ℚ whole b
minus_one x b = by_common1 (λ x. x +ℚ ((whole b *ℚ whole (negsuc 0)) +ℚ whole (pos 0)) ≡ x -ℚ whole b) (λ k a.
    let p : whole b *ℚ whole (negsuc 0) ≡ ratio (neg_ℤ (b *ℤ pos (suc k))) (suc k) =
    ap (λ z. whole b *ℚ z) (whole_at (negsuc 0) k) ∙ whole_times_at b (negsuc 0 *ℤ pos (suc k)) k ∙ ap (λ z. ratio z (suc k)) (minus_times b (pos (suc k))) in
    rw (p, whole_at (pos 0) k, whole_at b k) (simp at_one (ap (λ z. ratio z (suc k)) (omega (arith, ints))))) x

-- a row as a line
pub dot_own : (w : ℕ) (cs : List ℤ) (b : ℤ) (ms : List ℤ) (v : Values) → length cs ≡ w → dot (cs ++ (b ∷ ms)) (own w v) ≡ dot cs v -ℚ whole b
unfolding own begin
dot_own zero [] b ms v e = ap (λ z. (whole b *ℚ whole (negsuc 0)) +ℚ z) (dot_none ms) ∙ sym (zero_plus _) ∙ minus_one (whole (pos 0)) b
dot_own zero (c ∷ cs) b ms v e = absurd (omega arith)
dot_own (suc w) [] b ms v e = absurd (omega arith)
dot_own (suc w) (c ∷ cs) b ms v e =
    ap (λ z. (whole c *ℚ v 0) +ℚ z) (dot_own w cs b ms (λ k. v (suc k)) (omega arith)) ∙ sym (+ℚ_assoc (whole c *ℚ v 0) (dot cs (λ k. v (suc k))) (neg_ℚ (whole b)))

-- a sum of which one part alone is not 0
pub dot_single : (ms : List ℤ) (x : Values) (j : ℕ) → ((i : ℕ) → ¬ (i ≡ j) → whole (get_or ms i (pos 0)) *ℚ x i ≡ whole (pos 0))
    → dot ms x ≡ whole (get_or ms j (pos 0)) *ℚ x j
dot_single [] x j h = sym (zero-times (x j))
dot_single (m ∷ ms) x zero h =
    ap (λ z. (whole m *ℚ x 0) +ℚ z) (dot_zero ms (λ k. x (suc k)) (λ i. h (suc i) (λ e. omega arith))) ∙ +ℚ_zero (whole m *ℚ x 0)
  where
    dot_zero : (ms : List ℤ) (x : Values) → ((i : ℕ) → whole (get_or ms i (pos 0)) *ℚ x i ≡ whole (pos 0)) → dot ms x ≡ whole (pos 0)
    dot_zero [] x h = refl
    dot_zero (m ∷ ms) x h = (λ i. h 0 i +ℚ dot_zero ms (λ k. x (suc k)) (λ k. h (suc k)) i) ∙ +ℚ_zero (whole (pos 0))
dot_single (m ∷ ms) x (suc j) h =
    (λ i. h 0 (λ e. omega arith) i +ℚ dot_single ms (λ k. x (suc k)) j (λ k n. h (suc k) (λ e. n (omega arith))) i) ∙ zero_plus _

-- ---- lines
abbrev pub times_of_line : ℕ → Line → ℕ → ℤ
times_of_line w l i = entry l (suc w + i)

-- a line that was made from these rows
pub record IsLine (rows : List Row) (w : ℕ) (from : List ℕ) (l : Line) : Type 0 where
  pub size : length l ≡ suc w + length rows
  pub sum : (v : Values) → dot l (own w v) ≡ dot l (others w (gaps rows v))
  pub only : (i : ℕ) → Among from i ⊎ (times_of_line w l i ≡ pos 0)

pub record IsStep (g row out : Line) : Type 0 where
  pub size : length out ≡ length row
  pub scale : ℕ
  pub down : ℕ
  pub share : ℤ
  pub scale_pos : 0 < scale
  pub down_pos : 0 < down
  pub entries : (i : ℕ) → pos scale *ℤ entry out i ≡ (pos down *ℤ entry row i) -ℤ (share *ℤ entry g i)
  pub gone : entry out (pivot g) ≡ pos 0

whole_cancel : (k : ℕ) (x y : ℚ) → 0 < k → whole (pos k) *ℚ x ≡ whole (pos k) *ℚ y → x ≡ y
whole_cancel k x y p = by_common2 (λ x y. whole (pos k) *ℚ x ≡ whole (pos k) *ℚ y → x ≡ y) (λ n a b h.
    let h2 = simp at_one at h in
    let h3 : pos k *ℤ a ≡ pos k *ℤ b = ratio-inj _ _ (suc n) (omega arith) h2 in
    ap (λ z. ratio z (suc n)) (*ℤ_cancel a b k p (same_in _ _ (omega (arith, same_out _ _ h3, product_is (pos k) a, product_is (pos k) b, product_is a (pos k), product_is b (pos k)))))) x y

times_zero_of : (k : ℕ) (z : ℤ) → 0 < k → pos k *ℤ z ≡ pos 0 → z ≡ pos 0
times_zero_of k z p h = *ℤ_cancel z (pos 0) k p (same_in _ _ (omega (arith, same_out _ _ h, product_is (pos k) z, product_is z (pos k))))

pub swap_z : (a b : ℤ) → a *ℤ b ≡ b *ℤ a
swap_z a b = same_in _ _ (simp (up-*ℤ, down-*ℤ) (omega arith))

no_difference : (d c : ℤ) → (d *ℤ pos 0) -ℤ (c *ℤ pos 0) ≡ pos 0
no_difference d c = omega (arith, ints)

pub step_zero : (g row out : Line) → IsStep g row out → (i : ℕ) → entry row i ≡ pos 0 → entry g i ≡ pos 0 → entry out i ≡ pos 0
step_zero g row out s i p q = times_zero_of s.scale _ s.scale_pos (s.entries i ∙ (λ t. (pos s.down *ℤ p t) -ℤ (s.share *ℤ q t)) ∙ no_difference (pos s.down) s.share)

scaled_positive : (k d : ℕ) (c x y : ℤ) → 0 < k → 0 < d → pos 0 <ℤ y → pos k *ℤ x ≡ (pos d *ℤ y) -ℤ (c *ℤ pos 0) → pos 0 <ℤ x
scaled_positive k d c x y kp dp yp e =
    let u = *ℤ_smono (pos 0) y d dp yp in
    *ℤ-<_cancel (pos 0) x k kp (omega (arith, ints, u, swap_z x (pos k), swap_z y (pos d), e))

pub step_positive : (g row out : Line) → IsStep g row out → (i : ℕ) → pos 0 <ℤ entry row i → entry g i ≡ pos 0 → pos 0 <ℤ entry out i
step_positive g row out s i p q =
    scaled_positive s.scale s.down s.share (entry out i) (entry row i) s.scale_pos s.down_pos p (s.entries i ∙ ap (λ z. (pos s.down *ℤ entry row i) -ℤ (s.share *ℤ z)) q)

-- a step keeps what a line says
pub step_line : (rows : List Row) (w : ℕ) (from : List ℕ) (g row out : Line) → IsLine rows w from g → IsLine rows w from row → IsStep g row out → IsLine rows w from out
step_line rows w from g row out lg lr s = record {
  size = s.size ∙ lr.size;
  sum = λ v. whole_cancel s.scale _ _ s.scale_pos
      (dot_step (pos s.scale) (pos s.down) s.share out row g s.size (lg.size ∙ sym lr.size) s.entries (own w v)
      ∙ (λ i. (whole (pos s.down) *ℚ lr.sum v i) -ℚ (whole s.share *ℚ lg.sum v i))
      ∙ sym (dot_step (pos s.scale) (pos s.down) s.share out row g s.size (lg.size ∙ sym lr.size) s.entries (others w (gaps rows v))));
  only = λ i. elim (lr.only i) [
    | inl a ↦ inl a
    | inr z ↦ elim (lg.only i) [
      | inl a ↦ inl a
      | inr y ↦ inr (step_zero g row out s (suc w + i) z y)
    ]
  ];
}

pub widen : (rows : List Row) (w : ℕ) (from into : List ℕ) (l : Line) → ((i : ℕ) → Among from i → Among into i) → IsLine rows w from l → IsLine rows w into l
widen rows w from into l h line = record { size = line.size; sum = line.sum; only = λ i. elim (line.only i) [ inl a ↦ inl (h i a) | inr z ↦ inr z ] }

-- ---- the equations of a chain
abbrev pub AreClear : List Line → Line → Type 0
AreClear [] l = Unit {0}
AreClear (g ∷ gs) l = (entry l (pivot g) ≡ pos 0) × AreClear gs l

-- the line of e after the equations gs of the rows es
pub record IsReduced (rows : List Row) (w : ℕ) (es : List ℕ) (gs : List Line) (e : ℕ) (l : Line) : Type 0 where
  pub line : IsLine rows w (e ∷ es) l
  pub mine : pos 0 <ℤ times_of_line w l e
  pub clears : AreClear gs l

unfoldable pub AreReduced : List Row → ℕ → List ℕ → List Line → Type 0
AreReduced rows w [] [] = Unit {0}
AreReduced rows w [] (g ∷ gs) = ⊥
AreReduced rows w (e ∷ es) [] = ⊥
AreReduced rows w (e ∷ es) (g ∷ gs) = IsReduced rows w es gs e g × AreReduced rows w es gs

step_clear : (g row out : Line) (gs : List Line) → IsStep g row out → AreClear gs g → AreClear gs row → AreClear gs out
step_clear g row out [] s a b = tt
step_clear g row out (h ∷ hs) s a b = (step_zero g row out s (pivot h) b.0 a.0, step_clear g row out hs s a.1 b.1)

-- a row below the chain has no part in its equations
pub no_part : (j : ℕ) (es : List ℕ) → IsBelow j es → Among es j → ⊥
no_part j es b a = let u = above j es b j a in omega arith

-- one equation more
pub reduced_step : (rows : List Row) (w : ℕ) (e : ℕ) (es : List ℕ) (g : Line) (gs : List Line) (j : ℕ) (row out : Line)
    → IsBelow j (e ∷ es) → IsReduced rows w es gs e g → IsReduced rows w es gs j row → IsStep g row out → IsReduced rows w (e ∷ es) (g ∷ gs) j out
reduced_step rows w e es g gs j row out b rg rr s = record {
  line = step_line rows w (j ∷ e ∷ es) g row out
      (widen rows w (e ∷ es) (j ∷ e ∷ es) g (λ i a. inr a) rg.line)
      (widen rows w (j ∷ es) (j ∷ e ∷ es) row (λ i a. elim a [ inl q ↦ inl q | inr q ↦ inr (inr q) ]) rr.line) s;
  mine = step_positive g row out s (suc w + j) rr.mine
      (elim (rg.line.only j) [ inl a ↦ absurd (no_part j (e ∷ es) b a) | inr z ↦ z ]);
  clears = (s.gone, step_clear g row out gs s rg.clears rr.clears);
}

-- at values that meet the chain, the line of e is a positive number of copies of what e is over its bound
pub at_chain : (rows : List Row) (w : ℕ) (es : List ℕ) (gs : List Line) (e : ℕ) (l : Line) → IsReduced rows w es gs e l
    → (v : Values) → MeetsAll rows es v → dot l (own w v) ≡ whole (times_of_line w l e) *ℚ gaps rows v e
at_chain rows w es gs e l r v m =
    r.line.sum v ∙ dot_others w l (gaps rows v)
    ∙ dot_single (drop (suc w) l) (gaps rows v) e (λ i n. alone i n)
    ∙ ap (λ z. whole z *ℚ gaps rows v e) (get_or-drop (suc w) l e (pos 0))
  where
    alone : (i : ℕ) → ¬ (i ≡ e) → whole (get_or (drop (suc w) l) i (pos 0)) *ℚ gaps rows v i ≡ whole (pos 0)
    alone i n = rw (get_or-drop (suc w) l i (pos 0)) (elim (r.line.only i) [
      | inl a ↦ elim a [
        | inl q ↦ absurd (n (sym q))
        | inr q ↦ rw (met rows es v m i q) (times-zero (times_of_line w l i))
      ]
      | inr z ↦ rw z (zero-times (gaps rows v i))
    ])

-- values at which the equations are 0 meet the chain
abbrev pub AreNothing : ℕ → List Line → Values → Type 0
AreNothing w [] v = Unit {0}
AreNothing w (g ∷ gs) v = (dot g (own w v) ≡ whole (pos 0)) × AreNothing w gs v

no_gap : (z : ℤ) (x : ℚ) → pos 0 <ℤ z → whole z *ℚ x ≡ whole (pos 0) → x ≡ whole (pos 0)
no_gap (pos n) x p h = whole_cancel n x (whole (pos 0)) (omega (arith, ints)) (h ∙ sym (times-zero (pos n)))
no_gap (negsuc n) x p h = absurd (omega (arith, ints))

pub back : (x y : ℚ) → x -ℚ y ≡ whole (pos 0) → x ≡ y
back = by_common2 (λ x y. x -ℚ y ≡ whole (pos 0) → x ≡ y) (λ k a b h. (let h2 = simp (whole_at (pos 0) k, at_one) at h in omega (arith, fractions)))

pub meets_chain : (rows : List Row) (w : ℕ) (es : List ℕ) (gs : List Line) → AreReduced rows w es gs → (v : Values) → AreNothing w gs v → MeetsAll rows es v
unfolding AreReduced
meets_chain rows w [] [] r v n = tt
meets_chain rows w [] (g ∷ gs) r v n = absurd r
meets_chain rows w (e ∷ es) [] r v n = absurd r
meets_chain rows w (e ∷ es) (g ∷ gs) r v n =
    let rest = meets_chain rows w es gs r.1 v n.1 in
    (record { eq = back _ _ (no_gap (times_of_line w g e) (gaps rows v e) r.0.mine (sym (at_chain rows w es gs e g r.0 v rest) ∙ n.0)) }, rest)
