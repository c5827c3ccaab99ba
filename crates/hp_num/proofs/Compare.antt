-- The order of two fractions by their whole parts and rests, and by the magnitudes of their cross products.
use Rattle.std.proofs.Common.{◌≡◌, ◌≢◌, ℕ, zero, suc, ◌+◌, ◌*◌, ◌/◌, ◌%◌, ◌<◌, ◌≤◌, ◌⊎◌, inl, inr, ℤ, pos, negsuc, neg_ℤ, ◌*ℤ◌, ◌<ℤ◌, ◌≤ℤ◌, unsigned_abs, sym, refl, ap, ◌∙◌, arith, subst, mul-le-mul_left}
use Rattle.std.proofs.lemmas.Int.{ints}
use Rattle.std.proofs.lemmas.Bool.{cases_lt}
use Rattle.std.proofs.lemmas.Bool.Decides.{nat_tests}
use Rattle.std.specs.Ordering.{nat_cmp}
use Rattle.std.specs.declared.cmp.Ordering.{Ordering}
use Rattle.std.specs.declared.cmp.Ordering.TheVariants.{Less, Equal, Greater}
use borrow.Author.Differences.{same_in}
use Rattle.hp_math.specs.Rational.{ℚ, ratio, recip, signed_like, magnitude}
use Rattle.hp_math.proofs.Whole.{up-*ℤ, down-*ℤ}
use Rattle.hp_math.proofs.Rational.{ℚ-same}
use Rattle.hp_math.proofs.Parts.{abs-magnitude}

nat_less : (x y : ℕ) → x < y → nat_cmp x y ≡ Less
nat_less x y h = grind (arith, nat_tests)

nat_same : (x y : ℕ) → x ≡ y → nat_cmp x y ≡ Equal
nat_same x y h = grind (arith, nat_tests)

nat_more : (x y : ℕ) → y < x → nat_cmp x y ≡ Greater
nat_more x y h = grind (arith, nat_tests)

nat_equal : (x y : ℕ) → nat_cmp x y ≡ Equal → x ≡ y
nat_equal x y h = grind (arith, nat_tests)

-- two pairs in one order
same_order : (x y u v : ℕ) → (x < y → u < v) → (x ≡ y → u ≡ v) → (y < x → v < u) → nat_cmp x y ≡ nat_cmp u v
same_order x y u v f g h =
    elim (cases_lt x y) [
      | inl l ↦ nat_less x y l ∙ sym (nat_less u v (f l))
      | inr l ↦ elim (cases_lt y x) [
        | inl k ↦ nat_more x y k ∙ sym (nat_more u v (h k))
        | inr k ↦ (let e : x ≡ y = omega arith in nat_same x y e ∙ sym (nat_same u v (g e)))
      ]
    ]

cross_less : (a b c d q s : ℕ) → 0 < d → a < b * suc q → suc q ≤ s → s * d ≤ c → a * d < c * b
cross_less a b c d q s p f g h =
    omega (arith, mul-le-mul_left d f, mul-le-mul_left (b * d) g, mul-le-mul_left b h)

-- by whole parts that differ
pub by_wholes : (a b c d : ℕ) → 0 < b → 0 < d → a / b ≢ c / d → nat_cmp (a / b) (c / d) ≡ nat_cmp (a * d) (c * b)
by_wholes a b c d p r n =
    same_order _ _ _ _
    (λ l. cross_less a b c d (a / b) (c / d) r (omega arith) l (omega arith))
    (λ e. absurd (n e))
    (λ l. cross_less c d a b (c / d) (a / b) p (omega arith) l (omega arith))

-- by the rests over equal whole parts
pub by_rests : (a b c d : ℕ) → 0 < b → 0 < d → a / b ≡ c / d → nat_cmp (a % b * d) (c % d * b) ≡ nat_cmp (a * d) (c * b)
by_rests a b c d p r e =
    let x : a * d ≡ a % b * d + b * (a / b) * d = (let s : a ≡ a % b + b * (a / b) = omega arith in omega (arith, ap (λ z. z * d) s)) in
    let y : c * b ≡ c % d * b + b * (a / b) * d = (let s : c ≡ c % d + d * (c / d) = omega arith in omega (arith, ap (λ z. z * b) s, ap (λ z. d * z * b) e)) in
    same_order (a % b * d) (c % d * b) (a * d) (c * b) (λ l. omega arith) (λ l. omega arith) (λ l. omega arith)

-- a rest of 0 tells the order by itself
pub by_zero : (m n b d : ℕ) → 0 < b → 0 < d → (m ≡ 0) ⊎ (n ≡ 0) → nat_cmp m n ≡ nat_cmp (m * d) (n * b)
by_zero zero zero b d p q h = same_order 0 0 (0 * d) (0 * b) (λ l. absurd (omega arith)) (λ e. omega arith) (λ l. absurd (omega arith))
by_zero zero (suc n) b d p q h = same_order 0 (suc n) (0 * d) (suc n * b) (λ l. omega arith) (λ e. absurd (omega arith)) (λ l. absurd (omega arith))
by_zero (suc m) zero b d p q h = same_order (suc m) 0 (suc m * d) (0 * b) (λ l. absurd (omega arith)) (λ e. absurd (omega arith)) (λ l. omega arith)
by_zero (suc m) (suc n) b d p q (inl h) = absurd (omega arith)
by_zero (suc m) (suc n) b d p q (inr h) = absurd (omega arith)

-- the rests, the other way round
pub turned : (m n b d : ℕ) → nat_cmp (d * m) (b * n) ≡ nat_cmp (m * d) (n * b)
turned m n b d = same_order (d * m) (b * n) (m * d) (n * b) (λ l. omega arith) (λ l. omega arith) (λ l. omega arith)

cross_pos : (n m : ℤ) (d e : ℕ) → pos 0 ≤ℤ n → pos 0 ≤ℤ m → unsigned_abs n * e ≡ unsigned_abs m * d → n *ℤ pos e ≡ m *ℤ pos d
cross_pos (pos n) (pos m) d e p q h = ap pos h
cross_pos (pos n) (negsuc m) d e p q h = absurd (omega (arith, ints))
cross_pos (negsuc n) m d e p q h = absurd (omega (arith, ints))

cross_neg : (n m : ℤ) (d e : ℕ) → n <ℤ pos 0 → m <ℤ pos 0 → unsigned_abs n * e ≡ unsigned_abs m * d → n *ℤ pos e ≡ m *ℤ pos d
cross_neg (negsuc n) (negsuc m) d e p q h = same_in _ _ (simp (up-*ℤ, down-*ℤ) (omega (arith, h)))
cross_neg (negsuc n) (pos m) d e p q h = absurd (omega (arith, ints))
cross_neg (pos n) m d e p q h = absurd (omega (arith, ints))

-- the same magnitudes under the same sign
crosses : (x y : ℚ) → x ≡ y → unsigned_abs x.num * y.den ≡ unsigned_abs y.num * x.den
crosses x y e = subst (λ z. unsigned_abs x.num * z.den ≡ unsigned_abs z.num * x.den) e refl

pub equal_pos : (x y : ℚ) (r : Ordering) → r ≡ nat_cmp (unsigned_abs x.num * y.den) (unsigned_abs y.num * x.den) → pos 0 ≤ℤ x.num → pos 0 ≤ℤ y.num
    → (r ≡ Equal → x ≡ y) × (x ≡ y → r ≡ Equal)
equal_pos x y r h p q = (λ e. ℚ-same x y (cross_pos x.num y.num x.den y.den p q (nat_equal _ _ (sym h ∙ e))), λ e. h ∙ nat_same _ _ (crosses x y e))

pub equal_neg : (x y : ℚ) (r : Ordering) → r ≡ nat_cmp (unsigned_abs y.num * x.den) (unsigned_abs x.num * y.den) → x.num <ℤ pos 0 → y.num <ℤ pos 0
    → (r ≡ Equal → x ≡ y) × (x ≡ y → r ≡ Equal)
equal_neg x y r h p q = (λ e. ℚ-same x y (cross_neg x.num y.num x.den y.den p q (sym (nat_equal _ _ (sym h ∙ e)))), λ e. h ∙ nat_same _ _ (sym (crosses x y e)))

-- the reciprocal of a number below 0, and of one above
recip_below : (n : ℤ) (d : ℕ) → n <ℤ pos 0 → ratio (neg_ℤ (pos d)) (unsigned_abs (neg_ℤ n)) ≡ ratio (signed_like n d) (magnitude n)
recip_below (pos n) d h = absurd (omega (arith, ints))
recip_below (negsuc n) d h = ap (λ z. ratio (neg_ℤ (pos d)) z) (let e : suc n ≡ magnitude (negsuc n) = omega arith in e)

recip_above : (n : ℤ) (d : ℕ) → pos 0 ≤ℤ n → ratio (pos d) (unsigned_abs n) ≡ ratio (signed_like n d) (magnitude n)
recip_above (pos n) d h = ap (λ z. ratio (pos d) z) (abs-magnitude (pos n))
recip_above (negsuc n) d h = absurd (omega (arith, ints))

pub recip_neg : (x : ℚ) → x.num <ℤ pos 0 → ratio (neg_ℤ (pos x.den)) (unsigned_abs (neg_ℤ x.num)) ≡ recip x
unfolding recip
recip_neg x h = recip_below x.num x.den h

pub recip_pos : (x : ℚ) → pos 0 ≤ℤ x.num → ratio (pos x.den) (unsigned_abs x.num) ≡ recip x
unfolding recip
recip_pos x h = recip_above x.num x.den h
