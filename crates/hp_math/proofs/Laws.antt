-- The laws of an ordered field that `Field` leaves, four fractions at one denominator, and the whole numbers.
use Rattle.std.proofs.Common.{◌≡◌, ◌↔◌, ℕ, suc, ◌*◌, ◌<◌, inl, inr, ℤ, pos, negsuc, ◌+ℤ◌, ◌*ℤ◌, neg_ℤ, ◌≤ℤ◌, ◌<ℤ◌, refl, sym, ◌∙◌, ap, subst, arith, List, [], ◌∷◌, map, nat_eq, true, false, Bool}
use Rattle.std.specs.Ordering.{int_eq}
use Rattle.std.specs.Prelude.{int_le, int_lt, ◌&&◌}
use Rattle.std.proofs.lemmas.Int.{ints}
use Rattle.std.proofs.lemmas.Bool.{eq-eqb, eqb-true}
use Rattle.hp_math.specs.Rational.{ℚ, ratio, ◌+ℚ◌, ◌*ℚ◌, neg_ℚ, ◌/ℚ◌, ◌≤ℚ◌, ◌<ℚ◌, whole, eq_ℚ, recip}
use Rattle.hp_math.specs.Laws.{IsOrderedField, HasWholeNumbers, IsDense, HaveCommonDenominators, TestsDecide}
use Rattle.hp_math.proofs.Whole.{*ℤ_smono}
use Rattle.hp_math.proofs.Rational.{ratio-same, ratio-inj, ratio-≤, ratio-≤_out, ratio-<, ratio-<_out, ratio-+, ratio-neg, ratio-*, ℚ-ext}
use Rattle.hp_math.proofs.Field.{common, by_common1, by_common2, by_common3, at_one, fractions, whole_at, whole_times_at, product_at, +ℚ_comm, +ℚ_assoc, +ℚ_zero, +ℚ-neg_ℚ, *ℚ_comm, *ℚ_assoc, *ℚ-+ℚ, *ℚ_mono, +ℚ_mono, ≤ℚ_refl, ≤ℚ_trans, ≤ℚ_antisym, <ℚ_irrefl, cases_ℚ, recip-*ℚ, half, between}

-- ---- four fractions at one denominator
pub by_common4 : (P : ℚ → ℚ → ℚ → ℚ → Type 0) → ((k : ℕ) (a b c d : ℤ) → P (ratio a (suc k)) (ratio b (suc k)) (ratio c (suc k)) (ratio d (suc k)))
    → (x y z w : ℚ) → P x y z w
by_common4 P h x y z w = let m = common (x ∷ y ∷ z ∷ w ∷ []) in four m.below m.nums m.same
  where
    four : (k : ℕ) (ns : List ℤ) → map (λ a. ratio a (suc k)) ns ≡ x ∷ y ∷ z ∷ w ∷ [] → P x y z w
    four k [] e = cc
    four k (a ∷ []) e = cc
    four k (a ∷ b ∷ []) e = cc
    four k (a ∷ b ∷ c ∷ []) e = cc
    four k (a ∷ b ∷ c ∷ d ∷ []) e =
        let p : ratio a (suc k) ≡ x = cc in let q : ratio b (suc k) ≡ y = cc in let r : ratio c (suc k) ≡ z = cc in let s : ratio d (suc k) ≡ w = cc in
        subst (λ u. P u y z w) p (subst (λ u. P (ratio a (suc k)) u z w) q (subst (λ u. P (ratio a (suc k)) (ratio b (suc k)) u w) r
        (subst (λ u. P (ratio a (suc k)) (ratio b (suc k)) (ratio c (suc k)) u) s (h k a b c d))))
    four k (a ∷ b ∷ c ∷ d ∷ j ∷ ns) e = cc

-- ---- the strict order
pub <ℚ_trans : (x y z : ℚ) → x <ℚ y → y <ℚ z → x <ℚ z
<ℚ_trans = by_common3 (λ x y z. x <ℚ y → y <ℚ z → x <ℚ z) (λ k a b c g h. omega (arith, fractions))

pub <ℚ-≤ℚ_trans : (x y z : ℚ) → x <ℚ y → y ≤ℚ z → x <ℚ z
<ℚ-≤ℚ_trans = by_common3 (λ x y z. x <ℚ y → y ≤ℚ z → x <ℚ z) (λ k a b c g h. omega (arith, fractions))

pub ≤ℚ-<ℚ_trans : (x y z : ℚ) → x ≤ℚ y → y <ℚ z → x <ℚ z
≤ℚ-<ℚ_trans = by_common3 (λ x y z. x ≤ℚ y → y <ℚ z → x <ℚ z) (λ k a b c g h. omega (arith, fractions))

pub ≤ℚ_of_<ℚ : (x y : ℚ) → x <ℚ y → x ≤ℚ y
≤ℚ_of_<ℚ = by_common2 (λ x y. x <ℚ y → x ≤ℚ y) (λ k a b g. omega (arith, fractions))

pub <ℚ_of_not_≤ℚ : (x y : ℚ) → (y ≤ℚ x → ⊥) → x <ℚ y
<ℚ_of_not_≤ℚ x y h = elim (cases_ℚ y x) [ inl l ↦ absurd (h l) | inr l ↦ l ]

pub +ℚ_smono : (x y z : ℚ) → x <ℚ y → (x +ℚ z) <ℚ (y +ℚ z)
+ℚ_smono = by_common3 (λ x y z. x <ℚ y → (x +ℚ z) <ℚ (y +ℚ z)) (λ k a b c g. simp at_one (omega (arith, fractions)))

pub neg_ℚ_anti : (x y : ℚ) → x ≤ℚ y → neg_ℚ y ≤ℚ neg_ℚ x
neg_ℚ_anti = by_common2 (λ x y. x ≤ℚ y → neg_ℚ y ≤ℚ neg_ℚ x) (λ k a b g. simp at_one (omega (arith, fractions)))

pub neg_ℚ-neg_ℚ : (x : ℚ) → neg_ℚ (neg_ℚ x) ≡ x
neg_ℚ-neg_ℚ = by_common1 (λ x. neg_ℚ (neg_ℚ x) ≡ x) (λ k a. simp at_one (omega (arith, fractions)))

*ℤ_smono_pos : (a b c : ℤ) → a <ℤ b → pos 0 <ℤ c → (a *ℤ c) <ℤ (b *ℤ c)
*ℤ_smono_pos a b (pos n) h p = *ℤ_smono a b n (omega (arith, ints)) h
*ℤ_smono_pos a b (negsuc n) h p = absurd (omega (arith, ints))

pub *ℚ_smono : (x y z : ℚ) → x <ℚ y → whole (pos 0) <ℚ z → (x *ℚ z) <ℚ (y *ℚ z)
*ℚ_smono = by_common3 (λ x y z. x <ℚ y → whole (pos 0) <ℚ z → (x *ℚ z) <ℚ (y *ℚ z)) (λ k a b c g h.
    let h2 = simp (whole_at (pos 0) k) at h in
    simp product_at (ratio-< (a *ℤ c) (b *ℤ c) (suc k * suc k) (omega arith) (*ℤ_smono_pos a b c (omega (arith, fractions)) (omega (arith, fractions)))))

-- ---- products and quotients
pub *ℚ_one : (x : ℚ) → x *ℚ whole (pos 1) ≡ x
*ℚ_one x = *ℚ_comm x (whole (pos 1)) ∙ by_common1 (λ y. whole (pos 1) *ℚ y ≡ y) (λ k a. simp at_one (omega (arith, fractions))) x

pub *ℚ_zero : (x : ℚ) → x *ℚ whole (pos 0) ≡ whole (pos 0)
*ℚ_zero x = *ℚ_comm x (whole (pos 0)) ∙ by_common1 (λ y. whole (pos 0) *ℚ y ≡ whole (pos 0)) (λ k a. whole_times_at (pos 0) a k ∙ ap (λ n. ratio n (suc k)) (let e : pos 0 *ℤ a ≡ pos 0 *ℤ pos (suc k) = omega (arith, ints) in e) ∙ sym (whole_at (pos 0) k)) x

pub *ℚ-recip : (x : ℚ) → ¬ (x ≡ whole (pos 0)) → x *ℚ recip x ≡ whole (pos 1)
*ℚ-recip x h = *ℚ_comm x (recip x) ∙ recip-*ℚ x h

pub /ℚ-*ℚ : (x y : ℚ) → ¬ (y ≡ whole (pos 0)) → (x /ℚ y) *ℚ y ≡ x
/ℚ-*ℚ x y h = *ℚ_assoc x (recip y) y ∙ ap (λ z. x *ℚ z) (recip-*ℚ y h) ∙ *ℚ_one x

-- a factor that isn't 0 cancels
pub *ℚ_cancel : (x y z : ℚ) → ¬ (z ≡ whole (pos 0)) → x *ℚ z ≡ y *ℚ z → x ≡ y
*ℚ_cancel x y z h e = sym (back x) ∙ ap (λ w. w *ℚ recip z) e ∙ back y
  where
    back : (w : ℚ) → (w *ℚ z) *ℚ recip z ≡ w
    back w = *ℚ_assoc w z (recip z) ∙ ap (λ u. w *ℚ u) (*ℚ-recip z h) ∙ *ℚ_one w

-- ---- the whole numbers
pub whole-inj : (m n : ℤ) → whole m ≡ whole n → m ≡ n
unfolding whole
whole-inj m n h = ratio-inj m n 1 (omega arith) h

pub whole-≤ : (m n : ℤ) → whole m ≤ℚ whole n ↔ m ≤ℤ n
unfolding whole
whole-≤ m n = (λ h. ratio-≤_out m n 1 (omega arith) h, λ h. ratio-≤ m n 1 (omega arith) h)

pub whole-< : (m n : ℤ) → whole m <ℚ whole n ↔ m <ℤ n
unfolding whole
whole-< m n = (λ h. ratio-<_out m n 1 (omega arith) h, λ h. ratio-< m n 1 (omega arith) h)

pub whole-+ : (m n : ℤ) → whole m +ℚ whole n ≡ whole (m +ℤ n)
unfolding whole
whole-+ m n = ratio-+ m n 1 (omega arith)

pub whole-neg : (n : ℤ) → neg_ℚ (whole n) ≡ whole (neg_ℤ n)
unfolding whole
whole-neg n = ratio-neg n 1 (omega arith)

pub whole-* : (m n : ℤ) → whole m *ℚ whole n ≡ whole (m *ℤ n)
unfolding whole
whole-* m n = ratio-* m n 1 1 (omega arith) (omega arith)

ratio-times : (n : ℤ) (d : ℕ) → 0 < d → ratio n d *ℚ whole (pos d) ≡ whole n
unfolding whole
ratio-times n d p =
    ratio-* n (pos d) d 1 p (omega arith)
    ∙ ratio-same (n *ℤ pos d) n (d * 1) 1 (omega arith) (omega arith) (let s : d * 1 ≡ d = omega arith in omega (arith, ints, ap (λ e. n *ℤ pos e) s))

-- n / d is n over d
pub ratio-whole : (n : ℤ) (d : ℕ) → 0 < d → ratio n d ≡ whole n /ℚ whole (pos d)
ratio-whole n d p = *ℚ_cancel (ratio n d) (whole n /ℚ whole (pos d)) (whole (pos d)) apart (ratio-times n d p ∙ sym (/ℚ-*ℚ (whole n) (whole (pos d)) apart))
  where
    apart : ¬ (whole (pos d) ≡ whole (pos 0))
    apart e = let z = whole-inj (pos d) (pos 0) e in omega (arith, ints)

-- ---- the tests
int_eq-means : (a b : ℤ) → int_eq a b ≡ true → a ≡ b
int_eq-means a b h = grind (arith, ints)

int_eq-same : (a : ℤ) → int_eq a a ≡ true
int_eq-same a = grind (arith, ints)

le-holds : (a b : ℤ) → a ≤ℤ b → int_le a b ≡ true
le-holds a b h = grind (arith, ints)

lt-holds : (a b : ℤ) → a <ℤ b → int_lt a b ≡ true
lt-holds a b h = grind (arith, ints)

both : (a b : Bool) → a && b ≡ true → (a ≡ true) × (b ≡ true)
both true b h = (refl, h)
both false b h = cc

eq-means : (x y : ℚ) → eq_ℚ x y ≡ true → x ≡ y
eq-means x y h = let t = both (int_eq x.num y.num) (nat_eq x.den y.den) h in ℚ-ext x y (int_eq-means x.num y.num t.0) (eqb-true x.den y.den t.1)

eq-holds : (x y : ℚ) → x ≡ y → eq_ℚ x y ≡ true
eq-holds x y e = subst (λ z. eq_ℚ x z ≡ true) e (rw (int_eq-same x.num, eq-eqb x.den x.den refl) refl)

-- ---- the laws as they are promised
pub is_ordered_field : IsOrderedField
is_ordered_field = record {
  sums = record { comm = +ℚ_comm; assoc = +ℚ_assoc; zero = +ℚ_zero; opposite = +ℚ-neg_ℚ };
  products = record { comm = *ℚ_comm; assoc = *ℚ_assoc; one = *ℚ_one; sum = *ℚ-+ℚ; reciprocal = *ℚ-recip; quotient = /ℚ-*ℚ };
  order = record {
    refl = ≤ℚ_refl;
    trans = ≤ℚ_trans;
    antisym = ≤ℚ_antisym;
    total = cases_ℚ;
    strict = λ x y. (λ l h. <ℚ_irrefl x y l h, <ℚ_of_not_≤ℚ x y);
    sum = +ℚ_mono;
    sum_strict = +ℚ_smono;
    product = *ℚ_mono;
    product_strict = *ℚ_smono;
  };
}

pub has_whole_numbers : HasWholeNumbers
has_whole_numbers = record {
  same = λ m n. (whole-inj m n, ap whole);
  at_most = whole-≤;
  below = whole-<;
  sum = whole-+;
  opposite = whole-neg;
  product = whole-*;
  quotient = ratio-whole;
}

pub is_dense : IsDense
is_dense x y h = let b = between x y h in (half *ℚ (x +ℚ y), b.0, b.1)

pub have_common_denominators : HaveCommonDenominators
have_common_denominators xs = let m = common xs in record { den = suc m.below; positive = omega arith; nums = m.nums; same = m.same }

pub tests_decide : TestsDecide
tests_decide = record {
  le = λ x y. (λ t. record { le = omega (arith, ints) }, λ h. le-holds _ _ h.le);
  lt = λ x y. (λ t. record { lt = omega (arith, ints) }, λ h. lt-holds _ _ h.lt);
  eq = λ x y. (eq-means x y, eq-holds x y);
}
