-- A combination of true rows is true: so one that adds to nothing below 0 stands over no true rows.
use Rattle.std.proofs.Common.{◌≡◌, ℕ, zero, suc, ◌+◌, ◌<◌, ◌≤◌, ◌⊎◌, inl, inr, ℤ, pos, negsuc, ◌+ℤ◌, ◌*ℤ◌, ◌≤ℤ◌, ◌<ℤ◌, refl, sym, ◌∙◌, ap, subst, arith, List, [], ◌∷◌, map, get_or, nat_eq, cond, true, false}
use Rattle.std.proofs.lemmas.Int.{ints}
use Rattle.std.proofs.lemmas.Bool.{eqb-true, eq-eqb, cases_lt}
use Rattle.hp_math.specs.Rational.{ℚ, ratio, whole, ◌+ℚ◌, ◌*ℚ◌}
use Rattle.hp_math.specs.Combination.{Relation, AtMost, Below, Equals, Parts, Multiple, parts_value, Compares, RowIsTrue, AreTrue, coefficient, sum_coefficient, sum_bound, HasStrict, NoCombination}
use Rattle.hp_math.proofs.Whole.{*ℤ_assoc, *ℤ-+ℤ, +ℤ-*ℤ, *ℤ_mono, *ℤ_smono}
use Rattle.hp_math.proofs.Rational.{ratio-inj, ratio-≤_out, ratio-<_out}
use Rattle.hp_math.proofs.Field.{common, at_one, whole_at}

-- ---- a sum over all names below a bound, of coefficients c at numerators a
dense : ℕ → (ℕ → ℤ) → (ℕ → ℤ) → ℤ
dense zero a c = pos 0
dense (suc n) a c = (c n *ℤ a n) +ℤ dense n a c

dense-zero : (n : ℕ) (a c : ℕ → ℤ) → ((k : ℕ) → c k ≡ pos 0) → dense n a c ≡ pos 0
unfolding dense
dense-zero zero a c h = refl
dense-zero (suc n) a c h = rw (h n) (omega (arith, ints, dense-zero n a c h))

dense-add : (n : ℕ) (a c e : ℕ → ℤ) → dense n a (λ k. c k +ℤ e k) ≡ dense n a c +ℤ dense n a e
unfolding dense
dense-add zero a c e = omega (arith, ints)
dense-add (suc n) a c e = omega (arith, ints, dense-add n a c e, +ℤ-*ℤ (c n) (e n) (a n))

dense-scale : (n : ℕ) (a c : ℕ → ℤ) (t : ℤ) → dense n a (λ k. t *ℤ c k) ≡ t *ℤ dense n a c
unfolding dense
dense-scale zero a c t = omega (arith, ints)
dense-scale (suc n) a c t = omega (arith, ints, dense-scale n a c t, *ℤ_assoc t (c n) (a n), *ℤ-+ℤ t (c n *ℤ a n) (dense n a c))

abbrev single : ℕ → ℤ → ℕ → ℤ
single m c n = cond (nat_eq m n) c (pos 0)

single_above : (n : ℕ) (a : ℕ → ℤ) (m : ℕ) (c : ℤ) → n ≤ m → dense n a (single m c) ≡ pos 0
unfolding dense
single_above zero a m c h = refl
single_above (suc n) a m c h =
    (elim (nat_eq m n) as (λ b. nat_eq m n ≡ b → (cond b c (pos 0) *ℤ a n) +ℤ dense n a (single m c) ≡ pos 0) [
      | true ↦ λ t. absurd (omega (arith, eqb-true m n t))
      | false ↦ λ t. omega (arith, ints, single_above n a m c (omega arith))
    ]) refl

single_at : (n : ℕ) (a : ℕ → ℤ) (m : ℕ) (c : ℤ) → m < n → dense n a (single m c) ≡ c *ℤ a m
unfolding dense
single_at zero a m c h = absurd (omega arith)
single_at (suc n) a m c h =
    (elim (nat_eq m n) as (λ b. nat_eq m n ≡ b → (cond b c (pos 0) *ℤ a n) +ℤ dense n a (single m c) ≡ c *ℤ a m) [
      | true ↦ λ t. (let e : m ≡ n = eqb-true m n t in rw e (omega (arith, ints, single_above n a n c (omega arith))))
      | false ↦ λ t. elim (cases_lt m n) [
        | inl l ↦ omega (arith, ints, single_at n a m c l)
        | inr l ↦ (let e : m ≡ n = omega arith in let z : nat_eq m n ≡ true = eq-eqb m n e in cc)
      ]
    ]) refl

-- ---- a bound above all names of the rows
above : Parts → ℕ
above [] = 0
above (p ∷ ps) = suc p.0 + above ps

all_above : List Multiple → ℕ
all_above [] = 0
all_above (m ∷ ms) = above m.row.parts + all_above ms

-- ---- the left sides at numerators a over one denominator
int_parts : (ℕ → ℤ) → Parts → ℤ
int_parts a [] = pos 0
int_parts a (p ∷ ps) = (p.1 *ℤ a p.0) +ℤ int_parts a ps

sum_parts : (ℕ → ℤ) → List Multiple → ℤ
sum_parts a [] = pos 0
sum_parts a (m ∷ ms) = (m.times *ℤ int_parts a m.row.parts) +ℤ sum_parts a ms

module _ (n : ℕ) (a : ℕ → ℤ) where
  dense_parts : (ps : Parts) → above ps ≤ n → dense n a (λ k. coefficient k ps) ≡ int_parts a ps
  unfolding int_parts above
  dense_parts [] h = dense-zero n a (λ k. pos 0) (λ k. refl)
  dense_parts (p ∷ ps) h = dense-add n a (single p.0 p.1) (λ k. coefficient k ps) ∙ (λ i. single_at n a p.0 p.1 (omega arith) i +ℤ dense_parts ps (omega arith) i)

  dense_sum : (ms : List Multiple) → all_above ms ≤ n → dense n a (λ k. sum_coefficient k ms) ≡ sum_parts a ms
  unfolding sum_parts all_above
  dense_sum [] h = dense-zero n a (λ k. pos 0) (λ k. refl)
  dense_sum (m ∷ ms) h =
      let ps = m.row.parts in
      dense-add n a (λ k. m.times *ℤ coefficient k ps) (λ k. sum_coefficient k ms)
      ∙ (λ i. (dense-scale n a (λ k. coefficient k ps) m.times ∙ ap (λ x. m.times *ℤ x) (dense_parts ps (omega arith))) i +ℤ dense_sum ms (omega arith) i)

-- ---- true rows over whole numbers
abbrev IntCompares : Relation → ℤ → ℤ → Type 0
IntCompares AtMost x b = x ≤ℤ b
IntCompares Below x b = x <ℤ b
IntCompares Equals x b = x ≡ b

compare_out : (r : Relation) (x b : ℤ) (k : ℕ) → Compares r (ratio x (suc k)) (ratio b (suc k)) → IntCompares r x b
compare_out AtMost x b k h = ratio-≤_out x b (suc k) (omega arith) h
compare_out Below x b k h = ratio-<_out x b (suc k) (omega arith) h
compare_out Equals x b k h = ratio-inj x b (suc k) (omega arith) h

times_le : (r : Relation) (t x b : ℤ) → (pos 0 <ℤ t) ⊎ (r ≡ Equals) → IntCompares r x b → (t *ℤ x) ≤ℤ (t *ℤ b)
times_le AtMost (pos t) x b s h = omega (arith, ints, *ℤ_mono x b t h)
times_le AtMost (negsuc t) x b (inl s) h = absurd (omega (arith, ints))
times_le AtMost (negsuc t) x b (inr s) h = cc
times_le Below (pos t) x b s h = omega (arith, ints, *ℤ_mono x b t (omega (arith, ints)))
times_le Below (negsuc t) x b (inl s) h = absurd (omega (arith, ints))
times_le Below (negsuc t) x b (inr s) h = cc
times_le Equals t x b s h = rw h (omega (arith, ints))

times_lt : (t x b : ℤ) → (pos 0 <ℤ t) ⊎ (Below ≡ Equals) → x <ℤ b → (t *ℤ x) <ℤ (t *ℤ b)
times_lt (pos t) x b (inl s) h = omega (arith, ints, *ℤ_smono x b t (omega (arith, ints)) h)
times_lt (negsuc t) x b (inl s) h = absurd (omega (arith, ints))
times_lt t x b (inr s) h = cc

strict : (r : Relation) (t x b : ℤ) → (pos 0 <ℤ t) ⊎ (r ≡ Equals) → IntCompares r x b → r ≡ Below → (t *ℤ x) <ℤ (t *ℤ b)
strict AtMost t x b s h e = cc
strict Below t x b s h e = times_lt t x b s h
strict Equals t x b s h e = cc

abbrev IntTrue : (ℕ → ℤ) → ℕ → Multiple → Type 0
IntTrue a k m = IntCompares m.row.relation (int_parts a m.row.parts) (m.row.bound *ℤ pos (suc k))

AllIntTrue : (ℕ → ℤ) → ℕ → List Multiple → Type 0
AllIntTrue a k [] = Unit {0}
AllIntTrue a k (m ∷ ms) = IntTrue a k m × AllIntTrue a k ms

sums_le : (a : ℕ → ℤ) (k : ℕ) (ms : List Multiple) → AllIntTrue a k ms → sum_parts a ms ≤ℤ (sum_bound ms *ℤ pos (suc k))
unfolding sum_parts AllIntTrue
sums_le a k [] h = omega (arith, ints)
sums_le a k (m ∷ ms) h =
    let K = pos (suc k) in
    let x = times_le m.row.relation m.times (int_parts a m.row.parts) (m.row.bound *ℤ K) m.sign h.0 in
    omega (arith, ints, x, sums_le a k ms h.1, +ℤ-*ℤ (m.times *ℤ m.row.bound) (sum_bound ms) K, *ℤ_assoc m.times m.row.bound K)

sums_lt : (a : ℕ → ℤ) (k : ℕ) (ms : List Multiple) → AllIntTrue a k ms → HasStrict ms → sum_parts a ms <ℤ (sum_bound ms *ℤ pos (suc k))
unfolding sum_parts AllIntTrue
sums_lt a k [] h s = absurd s
sums_lt a k (m ∷ ms) h (inl e) =
    let K = pos (suc k) in
    let x = strict m.row.relation m.times (int_parts a m.row.parts) (m.row.bound *ℤ K) m.sign h.0 e in
    omega (arith, ints, x, sums_le a k ms h.1, +ℤ-*ℤ (m.times *ℤ m.row.bound) (sum_bound ms) K, *ℤ_assoc m.times m.row.bound K)
sums_lt a k (m ∷ ms) h (inr s) =
    let K = pos (suc k) in
    let x = times_le m.row.relation m.times (int_parts a m.row.parts) (m.row.bound *ℤ K) m.sign h.0 in
    omega (arith, ints, x, sums_lt a k ms h.1 s, +ℤ-*ℤ (m.times *ℤ m.row.bound) (sum_bound ms) K, *ℤ_assoc m.times m.row.bound K)

-- ---- the values below a bound, over one denominator
values : ℕ → (ℕ → ℚ) → List ℚ
values zero v = []
values (suc n) v = v 0 ∷ values n (λ k. v (suc k))

value_of : (n : ℕ) (v : ℕ → ℚ) (m : ℕ) → m < n → get_or (values n v) m (whole (pos 0)) ≡ v m
unfolding values
value_of zero v m h = absurd (omega arith)
value_of (suc n) v zero h = refl
value_of (suc n) v (suc m) h = value_of n (λ k. v (suc k)) m (omega arith)

value_at : (ns : List ℤ) (k n : ℕ) → get_or (map (λ a. ratio a (suc k)) ns) n (whole (pos 0)) ≡ ratio (get_or ns n (pos 0)) (suc k)
value_at [] k n = whole_at (pos 0) k ∙ ap (λ x. ratio x (suc k)) (omega (arith, ints))
value_at (a ∷ ns) k zero = refl
value_at (a ∷ ns) k (suc n) = value_at ns k n

module _ (v : ℕ → ℚ) (n : ℕ) (a : ℕ → ℤ) (k : ℕ) (e : (m : ℕ) → m < n → v m ≡ ratio (a m) (suc k)) where
  parts_at : (ps : Parts) → above ps ≤ n → parts_value v ps ≡ ratio (int_parts a ps) (suc k)
  unfolding int_parts above
  parts_at [] h = whole_at (pos 0) k ∙ ap (λ x. ratio x (suc k)) (omega (arith, ints))
  parts_at (p ∷ ps) h = (λ i. whole p.1 *ℚ e p.0 (omega arith) i +ℚ parts_at ps (omega arith) i) ∙ simp at_one

  row_at : (m : Multiple) → above m.row.parts ≤ n → RowIsTrue v m.row → IntTrue a k m
  row_at m l h = compare_out m.row.relation _ _ k (subst (λ x. Compares m.row.relation x (ratio (m.row.bound *ℤ pos (suc k)) (suc k))) (parts_at m.row.parts l)
      (subst (λ x. Compares m.row.relation (parts_value v m.row.parts) x) (whole_at m.row.bound k) h))

  all_at : (ms : List Multiple) → all_above ms ≤ n → AreTrue v ms → AllIntTrue a k ms
  unfolding AllIntTrue all_above
  all_at [] l h = tt
  all_at (m ∷ ms) l h = (row_at m (omega arith) h.0, all_at ms (omega arith) h.1)

pub no_combination : NoCombination
no_combination ms adds v all =
    let n = all_above ms in
    let m = common (values n v) in
    let a = λ (j : ℕ). get_or m.nums j (pos 0) in
    let k = m.below in
    let e : (j : ℕ) → j < n → v j ≡ ratio (a j) (suc k) = λ j l. sym (value_of n v j l) ∙ ap (λ x. get_or x j (whole (pos 0))) (sym m.same) ∙ value_at m.nums k j in
    let le : n ≤ n = omega arith in
    let rows = all_at v n a k e ms le all in
    let zero_sum : sum_parts a ms ≡ pos 0 = sym (dense_sum n a ms le) ∙ dense-zero n a (λ j. sum_coefficient j ms) adds.nothing in
    elim adds.bound [
      | inl below ↦ omega (arith, ints, zero_sum, sums_le a k ms rows, *ℤ_smono (sum_bound ms) (pos 0) (suc k) (omega arith) below)
      | inr both ↦ (let z : sum_bound ms ≡ pos 0 = both.0 in let w = sums_lt a k ms rows both.1 in omega (arith, ints, zero_sum, rw z at w))
    ]
