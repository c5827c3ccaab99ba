-- The computed point makes each equation 0.
use Rattle.std.proofs.Common.{◌≡◌, ℕ, zero, suc, ◌<◌, inl, inr, ℤ, pos, negsuc, refl, sym, ◌∙◌, ap, subst, arith, Ok, unsigned_abs, List, [], ◌∷◌, length, get_or, set, length-set, get_or-set_same, get_or-set_other}
use Rattle.std.proofs.lemmas.List.{length-replicate, get_or-replicate}
use Rattle.std.proofs.lemmas.Bool.{cases_lt}
use Rattle.std.proofs.Math.ListN.{get_or-eq_default}
use Rattle.hp_math.specs.Rational.{ℚ, whole, ◌+ℚ◌, ◌*ℚ◌, ◌-ℚ◌, neg_ℚ}
use Rattle.hp_math.proofs.Field.{by_common1, by_common2, by_common3, at_one, fractions, whole_at, +ℚ_zero, +ℚ_assoc}
use Rattle.hp_rows.specs.declared.row.Row.{Row}
use Rattle.hp_rows.specs.Rows.{Values, dot, MeetsAll}
use Rattle.hp_rows.specs.Lines.{Line, entry, pivot}
use Rattle.hp_num.specs.Wide.{◌>>=◌, mul_of, sub_of, div_of}
use Rattle.hp_rows.specs.Points.{at_point, rest_of, coordinate, solve, zeros, point_of, HavePivots}
use Rattle.hp_math.proofs.Laws.{by_common4}
use Rattle.hp_rows.proofs.Dot.{times-zero, zero-times}
use Rattle.hp_rows.proofs.Lines.{begin, own, dot_none, minus_one, zero_plus, AreClear, AreNothing, AreReduced, meets_chain}
use Rattle.hp_num.proofs.Given.{came, mul_gave, add_gave}
use Rattle.hp_rows.proofs.Clearing.{pivot_is}
use Rattle.hp_rows.proofs.Number.{div_gave}

-- ---- a change at one column
dot_same : (l : List ℤ) (x y : Values) → ((i : ℕ) → y i ≡ x i) → dot l y ≡ dot l x
dot_same [] x y h = refl
dot_same (c ∷ cs) x y h = λ i. (whole c *ℚ h 0 i) +ℚ dot_same cs (λ k. x (suc k)) (λ k. y (suc k)) (λ k. h (suc k)) i

moved : (a d : ℚ) → a +ℚ d ≡ (whole (pos 0) +ℚ d) +ℚ a
moved = by_common2 (λ a d. a +ℚ d ≡ (whole (pos 0) +ℚ d) +ℚ a) (λ k a d. simp (whole_at (pos 0) k, at_one) (omega (arith, fractions)))

dot_change : (l : List ℤ) (x y : Values) (p : ℕ) → ((i : ℕ) → ¬ (i ≡ p) → y i ≡ x i) → x p ≡ whole (pos 0) → dot l y ≡ dot l x +ℚ (whole (get_or l p (pos 0)) *ℚ y p)
dot_change [] x y p h z = sym ((λ i. whole (pos 0) +ℚ zero-times (y p) i) ∙ +ℚ_zero (whole (pos 0)))
dot_change (c ∷ cs) x y zero h z =
    (λ i. (whole c *ℚ y 0) +ℚ dot_same cs (λ k. x (suc k)) (λ k. y (suc k)) (λ k. h (suc k) (λ e. omega arith)) i)
    ∙ moved (whole c *ℚ y 0) (dot cs (λ k. x (suc k)))
    ∙ (λ i. (sym (ap (λ q. whole c *ℚ q) z ∙ times-zero c) i +ℚ dot cs (λ k. x (suc k))) +ℚ (whole c *ℚ y 0))
dot_change (c ∷ cs) x y (suc p) h z =
    (λ i. (whole c *ℚ h 0 (λ e. omega arith) i) +ℚ dot_change cs (λ k. x (suc k)) (λ k. y (suc k)) p (λ k n. h (suc k) (λ e. n (omega arith))) z i)
    ∙ sym (+ℚ_assoc (whole c *ℚ x 0) (dot cs (λ k. x (suc k))) (whole (get_or cs p (pos 0)) *ℚ y (suc p)))

own_same : (w : ℕ) (v u : Values) (i : ℕ) → u i ≡ v i → own w u i ≡ own w v i
unfolding own begin
own_same zero v u i e = refl
own_same (suc w) v u zero e = e
own_same (suc w) v u (suc i) e = own_same w (λ k. v (suc k)) (λ k. u (suc k)) i e

own_at : (w : ℕ) (v : Values) (i : ℕ) → i < w → own w v i ≡ v i
unfolding own begin
own_at zero v i h = absurd (omega arith)
own_at (suc w) v zero h = refl
own_at (suc w) v (suc i) h = own_at w (λ k. v (suc k)) i (omega arith)

-- ---- one coordinate
-- the sum of the products, over a point
products : Line → List ℚ → ℚ
products l xs = dot l (own (length xs) (at_point xs)) +ℚ whole (entry l (length xs))

less_sum : (r t s e : ℚ) → (r -ℚ t) -ℚ (s +ℚ e) ≡ r -ℚ ((t +ℚ s) +ℚ e)
less_sum = by_common4 (λ r t s e. (r -ℚ t) -ℚ (s +ℚ e) ≡ r -ℚ ((t +ℚ s) +ℚ e)) (λ k a b c d. simp at_one (omega (arith, fractions)))

less_none : (r : ℚ) → r ≡ r -ℚ (whole (pos 0) +ℚ whole (pos 0))
less_none = by_common1 (λ r. r ≡ r -ℚ (whole (pos 0) +ℚ whole (pos 0))) (λ k a. simp (whole_at (pos 0) k, at_one) (omega (arith, fractions)))

bound_back : (b : ℤ) → (whole b *ℚ whole (negsuc 0)) +ℚ whole (pos 0) +ℚ whole b ≡ whole (pos 0) +ℚ whole (pos 0)
bound_back b =
    ap (λ q. q +ℚ whole b) (sym (zero_plus _) ∙ minus_one (whole (pos 0)) b) ∙ back_again (whole b)
  where
    back_again : (x : ℚ) → (whole (pos 0) -ℚ x) +ℚ x ≡ whole (pos 0) +ℚ whole (pos 0)
    back_again = by_common1 (λ x. (whole (pos 0) -ℚ x) +ℚ x ≡ whole (pos 0) +ℚ whole (pos 0)) (λ k a. simp (whole_at (pos 0) k, at_one) (omega (arith, fractions)))

rest_gave : (rest : ℚ) (cs : Line) (xs : List ℚ) (a : ℚ) → rest_of rest cs xs ≡ Ok a → a ≡ rest -ℚ products cs xs
unfolding products own begin
rest_gave rest [] [] a h = (let e : a ≡ rest = cc in e ∙ less_none rest)
rest_gave rest (b ∷ ms) [] a h =
    (let e : a ≡ rest = cc in e ∙ less_none rest ∙ ap (λ q. rest -ℚ q) (sym (ap (λ q. ((whole b *ℚ whole (negsuc 0)) +ℚ q) +ℚ whole b) (dot_none ms) ∙ bound_back b)))
rest_gave rest [] (x ∷ xs) a h = (let e : a ≡ rest = cc in e ∙ less_none rest)
rest_gave rest (c ∷ cs) (x ∷ xs) a h =
    let s = came (mul_of (whole c) x) (λ y. sub_of rest y >>= λ b. rest_of b cs xs) a h in
    let t = came (sub_of rest s.value) (λ b. rest_of b cs xs) a s.rest in
    rest_gave t.value cs xs a t.rest
    ∙ (λ i. (add_gave rest (neg_ℚ s.value) t.value t.first ∙ ap (λ q. rest -ℚ q) (mul_gave (whole c) x s.value s.first)) i -ℚ products cs xs)
    ∙ less_sum rest (whole c *ℚ x) (dot cs (own (length xs) (at_point xs))) (whole (entry cs (length xs)))

left_over : (d b q : ℚ) → q ≡ b -ℚ (d +ℚ b) → d +ℚ q ≡ whole (pos 0)
left_over = by_common3 (λ d b q. q ≡ b -ℚ (d +ℚ b) → d +ℚ q ≡ whole (pos 0)) (λ k d b q h.
    let h2 = simp at_one at h in
    simp (whole_at (pos 0) k, at_one) (omega (arith, fractions)))

set_other : (w : ℕ) (xs : List ℚ) (p : ℕ) (y : ℚ) (i : ℕ) → ¬ (i ≡ p) → own w (at_point (set xs p y)) i ≡ own w (at_point xs) i
set_other w xs p y i n = own_same w (at_point xs) (at_point (set xs p y)) i (get_or-set_other xs p i y (whole (pos 0)) n)

set_own : (l : Line) (xs : List ℚ) (p : ℕ) (y : ℚ) → p < length xs → at_point xs p ≡ whole (pos 0)
    → dot l (own (length xs) (at_point (set xs p y))) ≡ dot l (own (length xs) (at_point xs)) +ℚ (whole (entry l p) *ℚ y)
set_own l xs p y h z =
    dot_change l (own (length xs) (at_point xs)) (own (length xs) (at_point (set xs p y))) p (set_other (length xs) xs p y) (own_at (length xs) (at_point xs) p h ∙ z)
    ∙ ap (λ q. dot l (own (length xs) (at_point xs)) +ℚ (whole (entry l p) *ℚ q))
    (own_at (length xs) (at_point (set xs p y)) p h ∙ get_or-set_same xs p y (whole (pos 0)) h)

coordinate_gave : (g : Line) (xs : List ℚ) (y : ℚ) → pivot g < length xs → pivot g < length g → at_point xs (pivot g) ≡ whole (pos 0) → coordinate g xs ≡ Ok y
    → dot g (own (length xs) (at_point (set xs (pivot g) y))) ≡ whole (pos 0)
unfolding products
coordinate_gave g xs y h k z e =
    let s = came (rest_of (whole (entry g (length xs))) g xs) (λ a. div_of a (whole (entry g (pivot g)))) y e in
    let n : ¬ (entry g (pivot g) ≡ pos 0) = λ q. (let u = pivot_is g k in let t : unsigned_abs (entry g (pivot g)) ≡ 0 = ap unsigned_abs q in omega arith) in
    set_own g xs (pivot g) y h z
    ∙ left_over (dot g (own (length xs) (at_point xs))) (whole (entry g (length xs))) (whole (entry g (pivot g)) *ℚ y)
    (div_gave s.value y (entry g (pivot g)) n s.rest ∙ rest_gave (whole (entry g (length xs))) g xs s.value s.first)

-- ---- all coordinates
ZeroAt : List Line → List ℚ → Type 0
ZeroAt [] xs = Unit {0}
ZeroAt (g ∷ gs) xs = (at_point xs (pivot g) ≡ whole (pos 0)) × ZeroAt gs xs

-- each equation is cleared of the pivots before it, and has a pivot
unfoldable pub AreSteps : ℕ → List Line → Type 0
AreSteps w [] = Unit {0}
AreSteps w (g ∷ gs) = (pivot g < w) × (w < length g) × AreClear gs g × AreSteps w gs

apart : (g : Line) (gs : List Line) (w : ℕ) (xs : List ℚ) (y : ℚ) → pivot g < length g → AreClear gs g → ZeroAt gs xs → ZeroAt gs (set xs (pivot g) y)
unfolding ZeroAt
apart g [] w xs y k c z = tt
apart g (h ∷ hs) w xs y k c z = (
  get_or-set_other xs (pivot g) (pivot h) y (whole (pos 0)) (λ q. (let u = pivot_is g k in let t : unsigned_abs (entry g (pivot g)) ≡ 0 = ap (λ j. unsigned_abs (entry g j)) (sym q) ∙ ap unsigned_abs c.0 in omega arith)) ∙ z.0,
  apart g hs w xs y k c.1 z.1,
)

pub record IsSolved (w : ℕ) (gs : List Line) (xs out : List ℚ) : Type 0 where
  pub size : length out ≡ w
  pub nothing : AreNothing w gs (at_point out)
  pub kept : (l : Line) → AreClear gs l → dot l (own w (at_point out)) ≡ dot l (own w (at_point xs))

solve_gave : (w : ℕ) (gs : List Line) (xs out : List ℚ) → length xs ≡ w → AreSteps w gs → ZeroAt gs xs → solve gs xs ≡ Ok out → IsSolved w gs xs out
unfolding AreSteps ZeroAt
solve_gave w [] xs out s a z h = (let e : xs ≡ out = cc in subst (IsSolved w [] xs) e (record { size = s; nothing = tt; kept = λ l c. refl }))
solve_gave w (g ∷ gs) xs out s a z h =
    let t = came (coordinate g xs) (λ y. solve gs (set xs (pivot g) y)) out h in
    let p : pivot g < length xs = (let q = a.0 in omega arith) in
    let k : pivot g < length g = (let q = a.0 in let r = a.1 in omega arith) in
    let more = solve_gave w gs (set xs (pivot g) t.value) out (length-set xs (pivot g) t.value ∙ s) a.3 (apart g gs w xs t.value k a.2 z.1) t.rest in
    record {
      size = more.size;
      nothing = (more.kept g a.2 ∙ ap (λ n. dot g (own n (at_point (set xs (pivot g) t.value)))) (sym s) ∙ coordinate_gave g xs t.value p k z.0 t.first, more.nothing);
      kept = λ l c. more.kept l c.1 ∙ ap (λ n. dot l (own n (at_point (set xs (pivot g) t.value)))) (sym s) ∙ set_own l xs (pivot g) t.value p z.0
          ∙ ap (λ q. dot l (own (length xs) (at_point xs)) +ℚ (whole q *ℚ t.value)) c.0
          ∙ (λ i. dot l (own (s i) (at_point xs)) +ℚ zero-times t.value i) ∙ +ℚ_zero _;
    }

zero_everywhere : (gs : List Line) (w : ℕ) → ZeroAt gs (zeros w)
unfolding ZeroAt
zero_everywhere [] w = tt
zero_everywhere (g ∷ gs) w = (zero_at w (pivot g), zero_everywhere gs w)
  where
    zero_at : (w i : ℕ) → at_point (zeros w) i ≡ whole (pos 0)
    zero_at w i = elim (cases_lt i w) [ inl l ↦ get_or-replicate w i (whole (pos 0)) (whole (pos 0)) l | inr l ↦ get_or-eq_default (zeros w) (whole (pos 0)) (rw (length-replicate w (whole (pos 0))) l) ]

-- the point of a chain meets its rows
pub steps_from : (rows : List Row) (w : ℕ) (es : List ℕ) (gs : List Line) → AreReduced rows w es gs → HavePivots w gs → AreSteps w gs
unfolding AreReduced HavePivots AreSteps
steps_from rows w [] [] r p = tt
steps_from rows w [] (g ∷ gs) r p = absurd r
steps_from rows w (e ∷ es) [] r p = absurd r
steps_from rows w (e ∷ es) (g ∷ gs) r p = (p.0, (let s = r.0.line.size in omega arith), r.0.clears, steps_from rows w es gs r.1 p.1)

pub point_meets : (rows : List Row) (w : ℕ) (es : List ℕ) (gs : List Line) (out : List ℚ) → AreReduced rows w es gs → HavePivots w gs → point_of w gs ≡ Ok out
    → (length out ≡ w) × MeetsAll rows es (at_point out)
point_meets rows w es gs out r p h =
    let s = solve_gave w gs (zeros w) out (length-replicate w (whole (pos 0))) (steps_from rows w es gs r p) (zero_everywhere gs w) h in
    (s.size, meets_chain rows w es gs r (at_point out) s.nothing)
