-- The steps of the descent over the lists as the code keeps them, the last row at the end.
use Rattle.std.proofs.Common.{◌≡◌, ℕ, suc, ◌+◌, ◌-◌, ◌<◌, ◌≤◌, inl, inr, refl, sym, ◌∙◌, ap, subst, arith, List, [], ◌∷◌, ◌++◌, length, reverse, take, get_or, set, nat_eq, true, false, Option, Some, None, Ok, Err, drop, add-one}
use Rattle.std.specs.Prelude.{MatchOption}
use Rattle.std.proofs.lemmas.List.{reverse-append, take_more, take-append-drop}
use Rattle.std.proofs.lemmas.Bool.{eqb-true, eqb-false, cases_lt}
use Rattle.hp_math.specs.Rational.{ℚ}
use Rattle.hp_rows.specs.declared.row.Row.{Row}
use Rattle.hp_num.specs.declared.wide.Wide.{Wide}
use Rattle.hp_rows.specs.Rows.{row_at, Holds, Breaks, AreWide, IsChain}
use Rattle.hp_num.specs.Wide.{◌>>=◌}
use Rattle.hp_rows.specs.Lines.{Line, line_of, pivot, clear, reduce, equations}
use Rattle.hp_rows.specs.Points.{at_point, point_of, solve, coordinate, PointFit, HavePivots}
use Rattle.hp_rows.specs.inner.Descent.{high, rank, IsUnder, IsState}
use Rattle.hp_rows.specs.declared.line.Fail.{Fail}
use Rattle.hp_rows.specs.declared.line.Fail.TheVariants as fail
use Rattle.hp_rows.specs.Told.{Tells}
use Rattle.hp_rows.specs.declared.descent.State.{State}
use Rattle.hp_rows.specs.declared.descent.Step.{Step}
use Rattle.hp_rows.specs.declared.descent.Step.TheVariants as step
use Rattle.hp_rows.specs.Strain.{IsStrainAt}
use Rattle.hp_rows.specs.inner.Steps.{first_is, IsStateOf, IsPushed, StepTells}
use Rattle.hp_rows.specs.declared.answer.Place.TheVariants as place
use Rattle.hp_num.proofs.Given.{came}
use Rattle.hp_rows.proofs.Chains.{snoc, point_fits}
use Rattle.hp_rows.proofs.Moves.{rank-hold, rank-pop, rank-push, rank-bound, hold, pop, push, link}

pub record Risen (rows : List Row) (w : ℕ) (before chain : List ℕ) (lines : List Line) (found : List ℕ) (point : List ℚ) (from at : ℕ) : Type 0 where
  pub state : IsState rows w chain lines found point at
  pub rises : rank before from < rank chain at

pub under_more : (n : ℕ) (chain : List ℕ) (at : ℕ) → IsUnder n chain at → at < n → first_is at chain ≡ false → IsUnder n chain (suc at)
unfolding IsUnder
under_more n [] at u h f = h
under_more n (e ∷ es) at u h f = (elim (cases_lt at e) [ inl l ↦ l | inr l ↦ absurd (eqb-false e at f (let a = u.0 in omega arith)) ], u.1)

pub held : (rows : List Row) (w : ℕ) → AreWide w rows → (chain : List ℕ) (lines : List Line) (found : List ℕ) (point : List ℚ) (at : ℕ)
    → IsState rows w chain lines found point at → at < length rows → first_is at chain ≡ false → Holds (row_at rows at) (at_point point)
    → Risen rows w chain chain lines found point at (at + 1)
held rows w wide chain lines found point at s h f t =
    let u = under_more (length rows) chain at s.under h f in
    rw add-one (record { state = hold rows w wide chain lines found point at s t u; rises = rank-hold chain at })

popped_plain : (rows : List Row) (w : ℕ) → AreWide w rows → (e : ℕ) (chain : List ℕ) (lines : List Line) (found : List ℕ) (point : List ℚ) (at : ℕ) (g : Line)
    → IsState rows w (e ∷ chain) (g ∷ lines) found point at → nat_eq e at ≡ true → Risen rows w (e ∷ chain) chain lines found point at (at + 1)
popped_plain rows w wide e chain lines found point at g s t =
    let d : e ≡ at = eqb-true e at t in
    rw add-one (subst (λ k. Risen rows w (e ∷ chain) chain lines found point k (suc k)) d (record {
      state = pop rows w wide e chain g lines found point (subst (λ k. IsState rows w (e ∷ chain) (g ∷ lines) found point k) (sym d) s);
      rises = rank-pop e chain;
    }))

no_lines : (rows : List Row) (w e : ℕ) (es : List ℕ) → equations rows (e ∷ es) ≡ Ok [] → ⊥
no_lines rows w e es h =
    let x = came (equations rows es) (λ hs. reduce hs (line_of rows e) >>= λ g. Ok (g ∷ hs)) [] h in
    let y = came (reduce x.value (line_of rows e)) (λ g. Ok (g ∷ x.value)) [] x.rest in
    cc

pub popped : (rows : List Row) (w : ℕ) → AreWide w rows → (chain init : List ℕ) (lines front : List Line) (found : List ℕ) (point : List ℚ) (at : ℕ)
    → IsState rows w (reverse chain) (reverse lines) found point at → first_is at (reverse chain) ≡ true
    → (r : Option ℕ) → MatchOption r ((chain ≡ []) × (init ≡ [])) (λ x. chain ≡ init ++ x ∷ []) → (q : Option Line) → MatchOption q ((lines ≡ []) × (front ≡ [])) (λ x. lines ≡ front ++ x ∷ [])
    → Risen rows w (reverse chain) (reverse init) (reverse front) found point at (at + 1)
popped rows w wide chain init lines front found point at s f None m q n = (let e : reverse chain ≡ [] = ap reverse m.0 in let z = rw e at f in cc)
popped rows w wide chain init lines front found point at s f (Some e) m None n =
    (let a : reverse chain ≡ e ∷ reverse init = ap reverse m ∙ snoc init e in
    let b : reverse lines ≡ [] = ap reverse n.0 in
    let made = rw (a, b) at s.made in
    absurd (no_lines rows w e (reverse init) made))
popped rows w wide chain init lines front found point at s f (Some e) m (Some g) n =
    (let a : reverse chain ≡ e ∷ reverse init = ap reverse m ∙ snoc init e in
    let b : reverse lines ≡ g ∷ reverse front = ap reverse n ∙ snoc front g in
    let s2 : IsState rows w (e ∷ reverse init) (g ∷ reverse front) found point at =
    subst (λ c. IsState rows w c (g ∷ reverse front) found point at) a (subst (λ l. IsState rows w (reverse chain) l found point at) b s) in
    let f2 : nat_eq e at ≡ true = subst (λ c. first_is at c ≡ true) a f in
    subst (λ c. Risen rows w c (reverse init) (reverse front) found point at (at + 1)) (sym a) (popped_plain rows w wide e (reverse init) (reverse front) found point at g s2 f2))

pub left_falls : (n : ℕ) (old new : List ℕ) (i j : ℕ) → IsUnder n new j → rank old i < rank new j → high n - rank new j < high n - rank old i
left_falls n old new i j u h = let b = rank-bound n new j u in omega arith

-- ---- a list of lines, as far as it has been gone through
pub reduce_more : (lines : List Line) (at : ℕ) (row line : Line) → at < length lines → reduce (reverse (take at lines)) row ≡ Ok line
    → reduce (reverse (take (at + 1) lines)) row ≡ clear (get_or lines at []) line
reduce_more lines at row line h r =
    let e : reverse (take (at + 1) lines) ≡ get_or lines at [] ∷ reverse (take at lines) = ap reverse (take_more lines at [] h) ∙ snoc (take at lines) (get_or lines at []) in
    rw e (rw r refl)

err_on : (front gs : List Line) (row : Line) (e : Wide) → reduce gs row ≡ Err e → reduce (front ++ gs) row ≡ Err e
err_on [] gs row e h = h
err_on (g ∷ front) gs row e h = rw (err_on front gs row e h) refl

pub reduce_stops : (lines : List Line) (at : ℕ) (row : Line) (e : Wide) → reduce (reverse (take (at + 1) lines)) row ≡ Err e → reduce (reverse lines) row ≡ Err e
reduce_stops lines at row e h =
    let s : reverse lines ≡ reverse (drop (at + 1) lines) ++ reverse (take (at + 1) lines) =
    ap reverse (sym (take-append-drop (at + 1) lines)) ∙ reverse-append (take (at + 1) lines) (drop (at + 1) lines) in
    rw s (err_on (reverse (drop (at + 1) lines)) (reverse (take (at + 1) lines)) row e h)

pub stops : (lines : List Line) (at : ℕ) (row line : Line) (f : Fail) → at < length lines → reduce (reverse (take at lines)) row ≡ Ok line
    → Tells (Err f) (clear (get_or lines at []) line) → Tells (Err f) (reduce (reverse lines) row)
stops lines at row line (fail.Wide w) h r t = reduce_stops lines at row w (reduce_more lines at row line h r ∙ t)
stops lines at row line fail.Memory h r t = tt

-- ---- the point, line by line
pub solve_more : (lines : List Line) (left : ℕ) (point : List ℚ) (y : ℚ) → 0 < left → left ≤ length lines → coordinate (get_or lines (left - 1) []) point ≡ Ok y
    → solve (reverse (take left lines)) point ≡ solve (reverse (take (left - 1) lines)) (set point (pivot (get_or lines (left - 1) [])) y)
solve_more lines left point y p h e =
    let k = left - 1 in
    let s : take left lines ≡ take (k + 1) lines = ap (λ n. take n lines) (let z : left ≡ k + 1 = omega arith in z) in
    let t : reverse (take left lines) ≡ get_or lines k [] ∷ reverse (take k lines) = ap reverse (s ∙ take_more lines k [] (omega arith)) ∙ snoc (take k lines) (get_or lines k []) in
    rw t (rw e refl)

pub solve_stops : (lines : List Line) (left : ℕ) (point : List ℚ) (w : Wide) → 0 < left → left ≤ length lines → coordinate (get_or lines (left - 1) []) point ≡ Err w
    → solve (reverse (take left lines)) point ≡ Err w
solve_stops lines left point w p h e =
    let k = left - 1 in
    let s : take left lines ≡ take (k + 1) lines = ap (λ n. take n lines) (let z : left ≡ k + 1 = omega arith in z) in
    let t : reverse (take left lines) ≡ get_or lines k [] ∷ reverse (take k lines) = ap reverse (s ∙ take_more lines k [] (omega arith)) ∙ snoc (take k lines) (get_or lines k []) in
    rw t (rw e refl)

-- ---- the row that the point breaks
module _ (rows : List Row) (w : ℕ) (wide : AreWide w rows) (chain : List ℕ) (lines : List Line) (found : List ℕ) (point : List ℚ) (at : ℕ)
    (s : IsState rows w (reverse chain) (reverse lines) found point at) (h : at < length rows) (f : first_is at (reverse chain) ≡ false)
    (b : Breaks (row_at rows at) (at_point point)) where
  under : IsUnder (length rows) (reverse chain) (suc at)
  under = under_more (length rows) (reverse chain) at s.under h f

  pub linked : IsChain rows (at ∷ reverse chain)
  linked = (link rows w wide (reverse chain) (reverse lines) found point at s under b, s.is_chain)

  pushed : (l : Line) → reduce (reverse lines) (line_of rows at) ≡ Ok l → equations rows (at ∷ reverse chain) ≡ Ok (l ∷ reverse lines)
  pushed l r = rw (s.made, r) refl

  pub pushed_fits : (l : Line) (lines2 : List Line) → reduce (reverse lines) (line_of rows at) ≡ Ok l → pivot l < w → lines2 ≡ lines ++ l ∷ [] → PointFit w lines2
  unfolding HavePivots
  pushed_fits l lines2 r p g =
      let d : reverse lines2 ≡ l ∷ reverse lines = ap reverse g ∙ snoc lines l in
      point_fits rows w wide (at ∷ reverse chain) lines2 linked (rw d (pushed l r)) (rw d (p, s.pivots))

  pub strain_point : (l : Line) (chain2 : List ℕ) (lines2 : List Line) (e : Wide) → reduce (reverse lines) (line_of rows at) ≡ Ok l → pivot l < w
      → chain2 ≡ chain ++ at ∷ [] → lines2 ≡ lines ++ l ∷ [] → point_of w (reverse lines2) ≡ Err e → IsStrainAt rows w (reverse chain2) place.Point e
  unfolding HavePivots
  strain_point l chain2 lines2 e r p c g q =
      let a : reverse chain2 ≡ at ∷ reverse chain = ap reverse c ∙ snoc chain at in
      let d : reverse lines2 ≡ l ∷ reverse lines = ap reverse g ∙ snoc lines l in
      rw a (linked, (l ∷ reverse lines, pushed l r, (p, s.pivots), rw d at q))

  pub extended : (l : Line) (chain2 : List ℕ) (lines2 : List Line) (found2 : List ℕ) (next : List ℚ) → reduce (reverse lines) (line_of rows at) ≡ Ok l → pivot l < w
      → chain2 ≡ chain ++ at ∷ [] → lines2 ≡ lines ++ l ∷ [] → found2 ≡ chain2 → point_of w (reverse lines2) ≡ Ok next
      → Risen rows w (reverse chain) (reverse chain2) (reverse lines2) (reverse found2) next at 0
  extended l chain2 lines2 found2 next r p c g k q =
      let a : reverse chain2 ≡ at ∷ reverse chain = ap reverse c ∙ snoc chain at in
      let d : reverse lines2 ≡ l ∷ reverse lines = ap reverse g ∙ snoc lines l in
      let t : reverse found2 ≡ at ∷ reverse chain = ap reverse k ∙ a in
      rw (a, d, t) (record {
        state = push rows w wide (reverse chain) (reverse lines) found point at l next s under b r p (rw d at q);
        rises = rank-push (reverse chain) at;
      })

-- a row that was put on the chain
pub told_push : (rows : List Row) (w : ℕ) (wide : AreWide w rows) (old new : State) (l : Line) (r : Step) → IsStateOf rows w old → old.at < length rows
    → first_is old.at (reverse old.chain) ≡ false → Breaks (row_at rows old.at) (at_point old.point) → reduce (reverse old.lines) (line_of rows old.at) ≡ Ok l → pivot l < w
    → IsPushed w l old new r → StepTells rows w old new r
told_push rows w wide old new l step.On s h f b q p i =
    (let x = extended rows w wide old.chain old.lines (reverse old.found) old.point old.at s h f b l new.chain new.lines new.found new.point q p i.chain i.lines i.found i.point in
    record {
      state = subst (λ n. IsState rows w (reverse new.chain) (reverse new.lines) (reverse new.found) new.point n) (sym i.anew) x.state;
      rises = subst (λ n. rank (reverse old.chain) old.at < rank (reverse new.chain) n) (sym i.anew) x.rises;
    })
told_push rows w wide old new l (step.Contradiction times) s h f b q p i = absurd i
told_push rows w wide old new l (step.Strain t) s h f b q p i =
    subst (λ k. IsStrainAt rows w (reverse t.chain) k t.wide) (sym i.place)
    (strain_point rows w wide old.chain old.lines (reverse old.found) old.point old.at s h f b l t.chain (old.lines ++ l ∷ []) t.wide q p i.chain refl i.wide)
told_push rows w wide old new l step.Memory s h f b q p i = tt
