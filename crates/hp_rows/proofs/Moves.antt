-- The four steps of the descent, and the measure that falls at each.
use Rattle.std.proofs.Common.{◌≡◌, ℕ, zero, suc, ◌+◌, ◌<◌, ◌≤◌, inl, inr, refl, sym, ◌∙◌, ap, subst, arith, List, [], ◌∷◌, length, Ok}
use Rattle.std.proofs.lemmas.Bool.{cases_lt}
use Rattle.hp_math.specs.Rational.{ℚ, ◌≤ℚ◌}
use Rattle.hp_math.proofs.Field.{≤ℚ_refl}
use Rattle.hp_rows.specs.declared.row.Row.{Row}
use Rattle.hp_rows.specs.Rows.{Values, dot, row_at, Holds, Meets, Breaks, HoldsBelow, IsBelow, IsLink, IsChain, AreWide}
use Rattle.hp_num.specs.Wide.{◌>>=◌}
use Rattle.hp_rows.specs.Lines.{Line, line_of, pivot, reduce, equations}
use Rattle.hp_rows.specs.Points.{at_point, point_of, HavePivots}
use Rattle.hp_rows.specs.inner.Descent.{high, rank, IsUnder, IsState}
use Rattle.hp_rows.proofs.Lines.{AreReduced}
use Rattle.hp_num.proofs.Given.{came}
use Rattle.hp_rows.proofs.Clearing.{reduce_gave}
use Rattle.hp_rows.proofs.Start.{starts}
use Rattle.hp_rows.proofs.Point.{point_meets}

-- ---- the measure
high-rises : (i : ℕ) → high i < high (suc i)
unfolding high
high-rises i = omega arith

high-mono : (i n : ℕ) → i ≤ n → high i ≤ high n
unfolding high
high-mono zero n h = omega arith
high-mono (suc i) zero h = absurd (omega arith)
high-mono (suc i) (suc n) h = (let e = high-mono i n (omega arith) in omega arith)

pub rank-hold : (es : List ℕ) (i : ℕ) → rank es i < rank es (suc i)
unfolding rank
rank-hold [] i = high-rises i
rank-hold (e ∷ es) i = (let h = rank-hold es i in omega arith)

rank-less : (es : List ℕ) (i j : ℕ) → i ≤ j → rank es i ≤ rank es j
unfolding rank
rank-less [] i j h = high-mono i j h
rank-less (e ∷ es) i j h = (let t = rank-less es i j h in omega arith)

rank-plus : (es : List ℕ) (i : ℕ) → rank es (suc i) ≡ rank es i + high i + 2
unfolding rank high
rank-plus [] i = omega arith
rank-plus (e ∷ es) i = (let h = rank-plus es i in omega arith)

pub rank-pop : (e : ℕ) (es : List ℕ) → rank (e ∷ es) e < rank es (suc e)
unfolding rank
rank-pop e es = (let h = rank-plus es e in omega arith)

rank-zero : (es : List ℕ) (i : ℕ) → rank es i ≡ rank es 0 + high i
unfolding rank high
rank-zero [] i = omega arith
rank-zero (e ∷ es) i = (let h = rank-zero es i in omega arith)

pub rank-push : (es : List ℕ) (j : ℕ) → rank es j < rank (j ∷ es) 0
unfolding rank
rank-push es j = (let h = rank-zero es j in omega arith)

rank-nil : (i n : ℕ) → i ≤ n → rank [] i ≤ high n
unfolding rank
rank-nil i n h = high-mono i n h

pub rank-bound : (n : ℕ) (es : List ℕ) (i : ℕ) → IsUnder n es i → rank es i ≤ high n
unfolding IsUnder
rank-bound n [] i u = rank-nil i n u
rank-bound n (e ∷ es) i u =
    (let a = rank-less (e ∷ es) i e u.0 in let b = rank-pop e es in let c = rank-bound n es (suc e) u.1 in omega arith)

-- ---- where the descent stands in the rows
deeper : (n : ℕ) (es : List ℕ) (i e : ℕ) → IsUnder n es (suc e) → i ≤ e → IsBelow i es
unfolding IsUnder
deeper n [] i e u h = tt
deeper n (f ∷ fs) i e u h = ((let a = u.0 in omega arith), deeper n fs i f u.1 (let a = u.0 in omega arith))

below_from : (n : ℕ) (es : List ℕ) (i : ℕ) → IsUnder n es (suc i) → IsBelow i es
unfolding IsUnder
below_from n [] i u = tt
below_from n (e ∷ es) i u = (u.0, deeper n es i e u.1 (let a = u.0 in omega arith))

within_from : (n : ℕ) (es : List ℕ) (i : ℕ) → IsUnder n es (suc i) → i < n
unfolding IsUnder
within_from n [] i u = u
within_from n (e ∷ es) i u = (let a = within_from n es e u.1 in let b = u.0 in omega arith)

-- ---- the equations of a chain are reduced
pub equations_gave : (rows : List Row) (w : ℕ) (es : List ℕ) (gs : List Line) → AreWide w rows → IsChain rows es → HavePivots w gs → equations rows es ≡ Ok gs → AreReduced rows w es gs
unfolding AreReduced HavePivots
equations_gave rows w [] [] a c p h = tt
equations_gave rows w [] (g ∷ gs) a c p h = cc
equations_gave rows w (e ∷ es) gs a c p h =
    (let x = came (equations rows es) (λ hs. reduce hs (line_of rows e) >>= λ g. Ok (g ∷ hs)) gs h in
    let y = came (reduce x.value (line_of rows e)) (λ g. Ok (g ∷ x.value)) gs x.rest in
    let s : y.value ∷ x.value ≡ gs = cc in
    let q : HavePivots w (y.value ∷ x.value) = subst (HavePivots w) (sym s) p in
    let more = equations_gave rows w es x.value a c.1 q.1 x.first in
    subst (AreReduced rows w (e ∷ es)) s
    (reduce_gave rows w es x.value e (line_of rows e) y.value more q.1 c.0.falls (starts rows w e c.0.within a) y.first, more))

-- ---- the steps
module _ (rows : List Row) (w : ℕ) (wide : AreWide w rows) where
  -- a row that holds
  pub hold : (chain : List ℕ) (lines : List Line) (found : List ℕ) (point : List ℚ) (at : ℕ) → IsState rows w chain lines found point at
      → Holds (row_at rows at) (at_point point) → IsUnder (length rows) chain (suc at) → IsState rows w chain lines found point (suc at)
  hold chain lines found point at s h u = record {
    is_chain = s.is_chain;
    made = s.made;
    pivots = s.pivots;
    under = u;
    point_of_found = s.point_of_found;
    meets = s.meets;
    size = s.size;
    holds = λ i l. elim (cases_lt i at) [ inl g ↦ s.holds i g | inr g ↦ (let e : at ≡ i = omega arith in subst (λ k. Holds (row_at rows k) (at_point point)) e h) ];
  }

  meets_holds : (row : Row) (v : Values) → Meets row v → Holds row v
  meets_holds row v m = record { le = subst (λ z. dot row.coefs v ≤ℚ z) m.eq (≤ℚ_refl (dot row.coefs v)) }

  -- the last row of the chain is reached: it holds as an equation
  pub pop : (e : ℕ) (chain : List ℕ) (g : Line) (lines : List Line) (found : List ℕ) (point : List ℚ) → IsState rows w (e ∷ chain) (g ∷ lines) found point e
      → IsState rows w chain lines found point (suc e)
  unfolding IsUnder HavePivots
  pop e chain g lines found point s =
      (let x = came (equations rows chain) (λ hs. reduce hs (line_of rows e) >>= λ g. Ok (g ∷ hs)) (g ∷ lines) s.made in
      let y = came (reduce x.value (line_of rows e)) (λ g. Ok (g ∷ x.value)) (g ∷ lines) x.rest in
      let t : x.value ≡ lines = cc in
      record {
        is_chain = s.is_chain.1;
        made = x.first ∙ ap Ok t;
        pivots = s.pivots.1;
        under = s.under.1;
        point_of_found = s.point_of_found;
        meets = s.meets.1;
        size = s.size;
        holds = λ i l. elim (cases_lt i e) [ inl q ↦ s.holds i q | inr q ↦ (let d : e ≡ i = omega arith in subst (λ k. Holds (row_at rows k) (at_point point)) d (meets_holds _ _ s.meets.0)) ];
      })

  -- a row that the point breaks can follow the chain
  pub link : (chain : List ℕ) (lines : List Line) (found : List ℕ) (point : List ℚ) (at : ℕ) → IsState rows w chain lines found point at
      → IsUnder (length rows) chain (suc at) → Breaks (row_at rows at) (at_point point) → IsLink rows chain at
  link chain lines found point at s u b = record {
    within = within_from (length rows) chain at u;
    falls = below_from (length rows) chain at u;
    values = at_point point;
    meets = s.meets;
    holds = s.holds;
    breaks = b;
  }

  -- with its line, the chain has one row more, and the descent begins anew at its point
  pub push : (chain : List ℕ) (lines : List Line) (found : List ℕ) (point : List ℚ) (at : ℕ) (l : Line) (next : List ℚ) → IsState rows w chain lines found point at
      → IsUnder (length rows) chain (suc at) → Breaks (row_at rows at) (at_point point) → reduce lines (line_of rows at) ≡ Ok l → pivot l < w
      → point_of w (l ∷ lines) ≡ Ok next → IsState rows w (at ∷ chain) (l ∷ lines) (at ∷ chain) next 0
  unfolding IsUnder HavePivots
  push chain lines found point at l next s u b h p q =
      let c : IsChain rows (at ∷ chain) = (link chain lines found point at s u b, s.is_chain) in
      let made : equations rows (at ∷ chain) ≡ Ok (l ∷ lines) = rw (s.made, h) refl in
      let m = point_meets rows w (at ∷ chain) (l ∷ lines) next (equations_gave rows w (at ∷ chain) (l ∷ lines) wide c (p, s.pivots) made) (p, s.pivots) q in
      record {
        is_chain = c;
        made = made;
        pivots = (p, s.pivots);
        under = (omega arith, u);
        point_of_found = record { is_chain = c; lines = l ∷ lines; made = made; pivots = (p, s.pivots); solved = q };
        size = m.0;
        meets = m.1;
        holds = λ i z. absurd (omega arith);
      }

  -- where the rows end, each holds
  pub all_hold : (chain : List ℕ) (lines : List Line) (found : List ℕ) (point : List ℚ) → IsState rows w chain lines found point (length rows) → HoldsBelow rows (length rows) (at_point point)
  all_hold chain lines found point s = s.holds

  -- the beginning
  pub begins : (point : List ℚ) → point_of w [] ≡ Ok point → IsState rows w [] [] [] point 0
  unfolding IsUnder HavePivots AreReduced
  begins point h = record {
    is_chain = tt;
    made = refl;
    pivots = tt;
    under = omega arith;
    point_of_found = record { is_chain = tt; lines = []; made = refl; pivots = tt; solved = h };
    meets = tt;
    holds = λ i z. absurd (omega arith);
    size = (point_meets rows w [] [] point tt tt h).0;
  }
