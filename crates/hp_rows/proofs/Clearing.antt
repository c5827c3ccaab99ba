-- What the computed steps do: the difference of two lines, and its division.
use Rattle.std.proofs.Common.{◌≡◌, ℕ, zero, suc, ◌+◌, ◌*◌, ◌/◌, ◌<◌, inl, inr, ℤ, pos, negsuc, ◌-ℤ◌, ◌*ℤ◌, neg_ℤ, ◌<ℤ◌, refl, sym, ◌∙◌, ap, subst, arith, List, [], ◌∷◌, length, map, true, false, nat_eq, cond, Ok, unsigned_abs}
use Rattle.std.proofs.lemmas.List.{length-map}
use Rattle.std.proofs.lemmas.Int.{ints}
use Rattle.std.proofs.lemmas.Bool.{eqb-true, eq-eqb, cases_lt}
use Rattle.std.proofs.lemmas.Nat.Gcd.{dvd_trans, dvd_refl, dvd-zero}
use Rattle.std.proofs.Math.Nat.{pos_of_dvd_of_pos, div-mul_cancel, zero-div}
use Prim.Native.Nat.{◌∣◌}
use borrow.Author.Differences.{same_in, neg_is}
use Rattle.hp_math.proofs.Whole.{up-*ℤ, down-*ℤ, *ℤ_smono}
use Rattle.hp_num.specs.Wide.{◌>>=◌, mul_sub_of}
use Rattle.hp_num.proofs.Divisor.{gcd-is}
use Rattle.hp_num.proofs.Given.{came, mul_sub_gave}
use Rattle.hp_num.specs.Divisor.{gcd}
use Rattle.hp_rows.specs.Arithmetic.{is_nothing, over, signed_by}
use Rattle.hp_rows.specs.Lines.{Line, entry, pivot, subtract, gcd_from, divided, clear, reduce}
use Rattle.hp_rows.proofs.Lines.{IsStep, swap_z, IsReduced, AreReduced, reduced_step, no_part}
use Rattle.hp_rows.specs.declared.row.Row.{Row}
use Rattle.hp_rows.specs.Rows.{IsBelow}
use Rattle.hp_rows.specs.Points.{HavePivots}

not_zero : (b : ℕ) → nat_eq b 0 ≡ false → 0 < b
not_zero b t = elim (cases_lt 0 b) [ inl l ↦ l | inr l ↦ (let z : nat_eq b 0 ≡ true = eq-eqb b 0 (omega arith) in cc) ]

-- ---- the difference of two lines
pub record IsDifference (d : ℤ) (row : Line) (c : ℤ) (g out : Line) : Type 0 where
  pub size : length out ≡ length row
  pub entries : (i : ℕ) → entry out i ≡ (d *ℤ entry row i) -ℤ (c *ℤ entry g i)

pub subtract_gave : (d : ℤ) (row : Line) (c : ℤ) (g out : Line) → length g ≡ length row → subtract d row c g ≡ Ok out → IsDifference d row c g out
subtract_gave d [] c [] out l h = (let e : out ≡ [] = cc in rw e (record { size = refl; entries = λ i. omega (arith, ints) }))
subtract_gave d [] c (g ∷ gs) out l h = absurd (omega arith)
subtract_gave d (r ∷ rs) c [] out l h = absurd (omega arith)
subtract_gave d (r ∷ rs) c (g ∷ gs) out l h =
    let x = came (mul_sub_of d r c g) (λ z. subtract d rs c gs >>= λ zs. Ok (z ∷ zs)) out h in
    let y = came (subtract d rs c gs) (λ zs. Ok (x.value ∷ zs)) out x.rest in
    let e : out ≡ x.value ∷ y.value = cc in
    let rest = subtract_gave d rs c gs y.value (omega arith) y.first in
    subst (IsDifference d (r ∷ rs) c (g ∷ gs)) (sym e) (both d r rs c g gs x.value y.value (mul_sub_gave d r c g x.value x.first) rest)
  where
    both : (d r : ℤ) (rs : Line) (c g : ℤ) (gs : Line) (z : ℤ) (zs : Line) → z ≡ (d *ℤ r) -ℤ (c *ℤ g) → IsDifference d rs c gs zs → IsDifference d (r ∷ rs) c (g ∷ gs) (z ∷ zs)
    both d r rs c g gs z zs e rest = record { size = ap suc rest.size; entries = at_each d r rs c g gs z zs e rest }
      where
        at_each : (d r : ℤ) (rs : Line) (c g : ℤ) (gs : Line) (z : ℤ) (zs : Line) → z ≡ (d *ℤ r) -ℤ (c *ℤ g) → IsDifference d rs c gs zs
            → (i : ℕ) → entry (z ∷ zs) i ≡ (d *ℤ entry (r ∷ rs) i) -ℤ (c *ℤ entry (g ∷ gs) i)
        at_each d r rs c g gs z zs e rest zero = e
        at_each d r rs c g gs z zs e rest (suc i) = rest.entries i

-- ---- division by the common divisor of all entries
from_divides : (d : ℕ) (zs : Line) → (gcd_from d zs ∣ d) × ((i : ℕ) → gcd_from d zs ∣ unsigned_abs (entry zs i))
from_divides d [] = (dvd_refl d, λ i. dvd-zero d)
from_divides d (z ∷ zs) =
    let rest = from_divides (gcd d (unsigned_abs z)) zs in
    let g = gcd-is d (unsigned_abs z) in
    (dvd_trans _ rest.0 g.0, at_each d z zs rest.1 (dvd_trans _ rest.0 g.1))
  where
    at_each : (d : ℕ) (z : ℤ) (zs : Line) → ((i : ℕ) → gcd_from (gcd d (unsigned_abs z)) zs ∣ unsigned_abs (entry zs i)) → gcd_from (gcd d (unsigned_abs z)) zs ∣ unsigned_abs z
        → (i : ℕ) → gcd_from (gcd d (unsigned_abs z)) zs ∣ unsigned_abs (entry (z ∷ zs) i)
    at_each d z zs r h zero = h
    at_each d z zs r h (suc i) = r i

pub over_times : (z : ℤ) (d : ℕ) → d ∣ unsigned_abs z → pos d *ℤ over z d ≡ z
over_times (pos n) d h = let e : (n / d) * d ≡ n = div-mul_cancel d h in same_in _ _ (simp (up-*ℤ, down-*ℤ) (omega (arith, e)))
over_times (negsuc n) d h =
    let e : (suc n / d) * d ≡ suc n = div-mul_cancel d h in
    let m = neg_is (pos (suc n / d)) in
    same_in _ _ (simp (up-*ℤ, down-*ℤ) (rw (m.0, m.1) (omega (arith, e))))

over_zero : (d : ℕ) → over (pos 0) d ≡ pos 0
over_zero d = ap pos (zero-div d)

divided_entry : (d : ℕ) (zs : Line) (i : ℕ) → entry (map (λ z. over z d) zs) i ≡ over (entry zs i) d
divided_entry d [] i = sym (over_zero d)
divided_entry d (z ∷ zs) zero = refl
divided_entry d (z ∷ zs) (suc i) = divided_entry d zs i

-- ---- the pivot
pub pivot_is : (l : Line) → pivot l < length l → 0 < unsigned_abs (entry l (pivot l))
pivot_is [] h = absurd (omega arith)
pivot_is (z ∷ zs) h =
    (elim (is_nothing z) as (λ t. is_nothing z ≡ t → cond t (suc (pivot zs)) 0 < suc (length zs) → 0 < unsigned_abs (entry (z ∷ zs) (cond t (suc (pivot zs)) 0))) [
      | true ↦ λ t q. pivot_is zs (omega arith)
      | false ↦ λ t q. not_zero (unsigned_abs z) t
    ]) refl h

pub nothing : (z : ℤ) → is_nothing z ≡ true → z ≡ pos 0
nothing (pos n) t = ap pos (eqb-true n 0 t)
nothing (negsuc n) t = absurd (let e = eqb-true (suc n) 0 t in omega arith)

-- before it all is 0
pub before_pivot : (l : Line) (i : ℕ) → i < pivot l → entry l i ≡ pos 0
before_pivot [] i h = refl
before_pivot (z ∷ zs) zero h =
    (elim (is_nothing z) as (λ t. is_nothing z ≡ t → 0 < cond t (suc (pivot zs)) 0 → z ≡ pos 0) [
      | true ↦ λ t q. nothing z t
      | false ↦ λ t q. absurd (omega arith)
    ]) refl h
before_pivot (z ∷ zs) (suc i) h =
    (elim (is_nothing z) as (λ t. suc i < cond t (suc (pivot zs)) 0 → entry zs i ≡ pos 0) [
      | true ↦ λ q. before_pivot zs i (omega arith)
      | false ↦ λ q. absurd (omega arith)
    ]) h

-- ---- the entry at the pivot is gone
times_over : (D h : ℕ) (q : ℤ) → pos D *ℤ (pos h *ℤ q) ≡ q *ℤ pos (D * h)
times_over D h q = same_in _ _ (simp (up-*ℤ, down-*ℤ) (omega arith))

neg_times : (q : ℤ) (m : ℕ) → neg_ℤ q *ℤ negsuc m ≡ q *ℤ pos (suc m)
neg_times q m = let n = neg_is q in same_in _ _ (simp (up-*ℤ, down-*ℤ) (rw (n.0, n.1) (omega arith)))

same_less : (a b : ℤ) → a ≡ b → a -ℤ b ≡ pos 0
same_less a b e = omega (arith, ints)

balanced : (m h : ℕ) (w : ℤ) → h ∣ m → h ∣ unsigned_abs w → pos (m / h) *ℤ w ≡ over w h *ℤ pos m
balanced m h w p q =
    ap (λ z. pos (m / h) *ℤ z) (sym (over_times w h q)) ∙ times_over (m / h) h (over w h) ∙ ap (λ z. over w h *ℤ pos z) (div-mul_cancel h p)

gone_at : (v w : ℤ) (h : ℕ) → h ∣ unsigned_abs v → h ∣ unsigned_abs w → (pos (unsigned_abs v / h) *ℤ w) -ℤ (signed_by v (over w h) *ℤ v) ≡ pos 0
gone_at (pos m) w h p q = same_less _ _ (balanced m h w p q)
gone_at (negsuc m) w h p q = same_less _ _ (balanced (suc m) h w p q ∙ sym (neg_times (over w h) m))

pub share_positive : (m h : ℕ) → 0 < m → h ∣ m → 0 < m / h
share_positive m h p q = let e : (m / h) * h ≡ m = div-mul_cancel h q in elim (cases_lt 0 (m / h)) [ inl l ↦ l | inr l ↦ (let z : m / h ≡ 0 = omega arith in absurd (omega (arith, rw z at e))) ]

none_of : (x g : ℤ) → pos 1 *ℤ x ≡ (pos 1 *ℤ x) -ℤ (pos 0 *ℤ g)
none_of x g = omega (arith, ints)

positive_part : (d : ℕ) (c x z : ℤ) → 0 < d → pos 0 <ℤ x → z ≡ (pos d *ℤ x) -ℤ (c *ℤ pos 0) → 0 < unsigned_abs z
positive_part d c x z p q e = let u = *ℤ_smono (pos 0) x d p q in above_zero z (omega (arith, ints, u, swap_z x (pos d)))
  where
    above_zero : (z : ℤ) → pos 0 <ℤ z → 0 < unsigned_abs z
    above_zero (pos n) h = omega (arith, ints)
    above_zero (negsuc n) h = omega arith

-- a line that is cleared at the pivot of another, where a place of the row lies outside of the other
pub clear_gave : (g row out : Line) → length g ≡ length row → pivot g < length g → (i : ℕ) → pos 0 <ℤ entry row i → entry g i ≡ pos 0
    → clear g row ≡ Ok out → IsStep g row out
clear_gave g row out size p i rp gz h =
    let v = entry g (pivot g) in
    let w = entry row (pivot g) in
    let k = gcd (unsigned_abs v) (unsigned_abs w) in
    let d = pos (unsigned_abs v / k) in
    let c = signed_by v (over w k) in
    (elim (is_nothing w) as (λ t. is_nothing w ≡ t → cond t (Ok row) (subtract d row c g >>= λ line. Ok (divided line)) ≡ Ok out → IsStep g row out) [
      | true ↦ λ t q. (let e : row ≡ out = cc in subst (IsStep g row) e (record {
        size = refl;
        scale = 1;
        down = 1;
        share = pos 0;
        scale_pos = omega arith;
        down_pos = omega arith;
        entries = λ j. none_of (entry row j) (entry g j);
        gone = nothing w t;
      }))
      | false ↦ λ t q.
          (let x = came (subtract d row c g) (λ line. Ok (divided line)) out q in
          let e : divided x.value ≡ out = cc in
          let s = subtract_gave d row c g x.value size x.first in
          let n = gcd-is (unsigned_abs v) (unsigned_abs w) in
          let vp = pivot_is g p in
          let dp = share_positive (unsigned_abs v) k vp n.0 in
          let f = from_divides 0 x.value in
          let zp : 0 < unsigned_abs (entry x.value i) = positive_part (unsigned_abs v / k) c (entry row i) (entry x.value i) dp rp
          (s.entries i ∙ ap (λ z. (d *ℤ entry row i) -ℤ (c *ℤ z)) gz) in
          subst (IsStep g row) e (record {
            size = length-map x.value (λ z. over z (gcd_from 0 x.value)) ∙ s.size;
            scale = gcd_from 0 x.value;
            down = unsigned_abs v / k;
            share = c;
            scale_pos = pos_of_dvd_of_pos (f.1 i) zp;
            down_pos = dp;
            entries = λ j. ap (λ z. pos (gcd_from 0 x.value) *ℤ z) (divided_entry (gcd_from 0 x.value) x.value j)
                ∙ over_times (entry x.value j) (gcd_from 0 x.value) (f.1 j) ∙ s.entries j;
            gone = divided_entry (gcd_from 0 x.value) x.value (pivot g)
                ∙ ap (λ z. over z (gcd_from 0 x.value)) (s.entries (pivot g) ∙ gone_at v w k n.0 n.1) ∙ over_zero (gcd_from 0 x.value);
          }))
    ]) refl h

-- the steps of a clearing, one after the other
pub cleared : (g row line out : Line) (v w d c : ℤ) (h k : ℕ) → v ≡ entry g (pivot g) → w ≡ entry row (pivot g) → is_nothing w ≡ false
    → h ≡ gcd (unsigned_abs v) (unsigned_abs w) → d ≡ over (pos (unsigned_abs v)) h → c ≡ signed_by v (over w h)
    → subtract d row c g ≡ Ok line → k ≡ gcd_from 0 line → out ≡ map (λ z. over z k) line → clear g row ≡ Ok out
cleared g row line out v w d c h k a b n e f i s t o = rw (← a, ← b, n, ← e, ← f, ← i, s, ← t, o) refl

-- ---- all equations
pub reduce_gave : (rows : List Row) (w : ℕ) (es : List ℕ) (gs : List Line) (j : ℕ) (row out : Line)
    → AreReduced rows w es gs → HavePivots w gs → IsBelow j es → IsReduced rows w [] [] j row → reduce gs row ≡ Ok out → IsReduced rows w es gs j out
unfolding AreReduced HavePivots
reduce_gave rows w [] [] j row out a p b r h = (let e : row ≡ out = cc in subst (IsReduced rows w [] [] j) e r)
reduce_gave rows w [] (g ∷ gs) j row out a p b r h = absurd a
reduce_gave rows w (e ∷ es) [] j row out a p b r h = absurd a
reduce_gave rows w (e ∷ es) (g ∷ gs) j row out a p b r h =
    let x = came (reduce gs row) (λ line. clear g line) out h in
    let t = reduce_gave rows w es gs j row x.value a.1 p.1 b.1 r x.first in
    let size : length g ≡ length x.value = a.0.line.size ∙ sym t.line.size in
    reduced_step rows w e es g gs j x.value out b a.0 t
    (clear_gave g x.value out size (let z = a.0.line.size in let y = p.0 in omega arith) (suc w + j) t.mine
    (elim (a.0.line.only j) [ inl q ↦ absurd (no_part j (e ∷ es) b q) | inr q ↦ q ]) x.rest)
