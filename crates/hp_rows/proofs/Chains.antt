-- A chain as the code keeps it, the last row at the end, its lines, and the row after it.
use Rattle.std.proofs.Common.{◌≡◌, ℕ, zero, suc, ◌+◌, ◌-◌, ◌<◌, ◌≤◌, refl, sym, ◌∙◌, ap, subst, arith, ℤ, List, [], ◌∷◌, ◌++◌, length, reverse, take, get_or, Ok, Err, drop, add-one}
use Rattle.std.proofs.lemmas.List.{reverse-append, get_or-reverse, length-reverse, take_more, take-append-drop}
use Rattle.std.proofs.Math.Seq.{take-length}
use Rattle.hp_num.specs.declared.wide.Wide.{Wide}
use Rattle.hp_rows.specs.declared.row.Row.{Row}
use Rattle.hp_rows.specs.declared.answer.Place.TheVariants as place
use Rattle.hp_rows.specs.Rows.{AreWide, IsChain}
use Rattle.hp_rows.specs.Lines.{Line, line_of, pivot, reduce, equations, LinesFit}
use Rattle.hp_rows.specs.Points.{PointFit, HavePivots}
use Rattle.hp_rows.specs.Strain.{IsStrainAt}
use Rattle.hp_rows.specs.Answers.{IsRefuted}
use Rattle.hp_rows.proofs.Lines.{AreReduced, IsReduced}
use Rattle.hp_rows.proofs.Clearing.{reduce_gave, before_pivot}
use Rattle.hp_rows.proofs.Start.{starts}
use Rattle.hp_rows.proofs.Contradiction.{contradicts}
use Rattle.hp_rows.proofs.Moves.{equations_gave}

pub snoc : {A : Type 0} (xs : List A) (x : A) → reverse (xs ++ x ∷ []) ≡ x ∷ reverse xs
snoc xs x = reverse-append xs (x ∷ [])

-- ---- the lines of a chain fit
fit_back : (rows : List Row) (w : ℕ) (es : List ℕ) (gs : List Line) → AreReduced rows w es gs → HavePivots w gs → (k : ℕ) → k < length gs
    → (length (get_or gs k []) ≡ suc w + length rows) × (pivot (get_or gs k []) < suc w + length rows)
unfolding AreReduced HavePivots
fit_back rows w [] [] a p k h = absurd (omega arith)
fit_back rows w [] (g ∷ gs) a p k h = absurd a
fit_back rows w (e ∷ es) [] a p k h = absurd a
fit_back rows w (e ∷ es) (g ∷ gs) a p zero h = (a.0.line.size, (let q = p.0 in omega arith))
fit_back rows w (e ∷ es) (g ∷ gs) a p (suc k) h = fit_back rows w es gs a.1 p.1 k (omega arith)

turned : (lines : List Line) (k : ℕ) → k < length lines → get_or (reverse lines) (length lines - 1 - k) [] ≡ get_or lines k []
turned lines k h =
    get_or-reverse lines (length lines - 1 - k) [] (omega arith) ∙ ap (λ n. get_or lines n []) (let e : length lines - 1 - (length lines - 1 - k) ≡ k = omega arith in e)

point_back : (w n : ℕ) (gs : List Line) → HavePivots w gs → ((k : ℕ) → k < length gs → w < length (get_or gs k [])) → (k : ℕ) → k < length gs → (pivot (get_or gs k []) < w) × (w < length (get_or gs k []))
unfolding HavePivots
point_back w n [] p l k h = absurd (omega arith)
point_back w n (g ∷ gs) p l zero h = (p.0, l 0 h)
point_back w n (g ∷ gs) p l (suc k) h = point_back w n gs p.1 (λ j q. l (suc j) (omega arith)) k (omega arith)

pub point_fits : (rows : List Row) (w : ℕ) → AreWide w rows → (chain : List ℕ) (lines : List Line) → IsChain rows chain → equations rows chain ≡ Ok (reverse lines) → HavePivots w (reverse lines) → PointFit w lines
point_fits rows w wide chain lines c m p k h =
    let r = equations_gave rows w chain (reverse lines) wide c p m in
    let f = fit_back rows w chain (reverse lines) r p in
    let q = point_back w 0 (reverse lines) p (λ j l. (let z = (f j l).0 in omega arith)) (length lines - 1 - k) (let e = length-reverse lines in omega arith) in
    rw (turned lines k h) at q

-- ---- the row after a chain
module _ (rows : List Row) (w : ℕ) (wide : AreWide w rows) (chain : List ℕ) (lines : List Line) (at : ℕ) (c : IsChain rows (at ∷ reverse chain))
    (m : equations rows (reverse chain) ≡ Ok (reverse lines)) (p : HavePivots w (reverse lines)) where
  before : AreReduced rows w (reverse chain) (reverse lines)
  before = equations_gave rows w (reverse chain) (reverse lines) wide c.1 p m

  reduced : (l : Line) → reduce (reverse lines) (line_of rows at) ≡ Ok l → IsReduced rows w (reverse chain) (reverse lines) at l
  reduced l r = reduce_gave rows w (reverse chain) (reverse lines) at (line_of rows at) l before p c.0.falls (starts rows w at c.0.within wide) r

  pub lines_fit : LinesFit (length (line_of rows at)) lines
  lines_fit k l =
      let n : length (line_of rows at) ≡ suc w + length rows = (starts rows w at c.0.within wide).line.size in
      let q = fit_back rows w (reverse chain) (reverse lines) before p (length lines - 1 - k) (let e = length-reverse lines in omega arith) in
      rw n (rw (turned lines k l) at q)

  pub long : (l : Line) → reduce (reverse lines) (line_of rows at) ≡ Ok l → w < length l
  long l r = let z = (reduced l r).line.size in omega arith

  pub refuted : (l : Line) (times : List ℤ) → reduce (reverse lines) (line_of rows at) ≡ Ok l → w ≤ pivot l → times ≡ drop (w + 1) l → IsRefuted rows w times
  refuted l times r q e =
      let k = contradicts rows w (reverse chain) (reverse lines) at l (reduced l r) c (λ i z. before_pivot l i (omega arith)) in
      rw (e, add-one) (record { contradiction = k.contradiction; none_negative = k.none_negative })

  pub strain_line : (e : Wide) → reduce (reverse lines) (line_of rows at) ≡ Err e → IsStrainAt rows w (reverse chain) (place.Line at) e
  strain_line e r = (c, (reverse lines, m, r))

-- ---- a chain, as far as it has been gone through
tail_of : (rows : List Row) (xs ys : List ℕ) → IsChain rows (xs ++ ys) → IsChain rows ys
tail_of rows [] ys c = c
tail_of rows (x ∷ xs) ys c = tail_of rows xs ys c.1

pub taken : (chain : List ℕ) (at : ℕ) → at < length chain → reverse (take (at + 1) chain) ≡ get_or chain at 0 ∷ reverse (take at chain)
taken chain at h = ap (λ l. reverse l) (take_more chain at 0 h) ∙ snoc (take at chain) (get_or chain at 0)

pub chain_so_far : (rows : List Row) (chain : List ℕ) (at : ℕ) → at < length chain → IsChain rows (reverse chain) → IsChain rows (get_or chain at 0 ∷ reverse (take at chain))
chain_so_far rows chain at h c =
    let s : reverse chain ≡ reverse (drop (at + 1) chain) ++ reverse (take (at + 1) chain) =
    ap (λ l. reverse l) (sym (take-append-drop (at + 1) chain)) ∙ reverse-append (take (at + 1) chain) (drop (at + 1) chain) in
    subst (IsChain rows) (taken chain at h) (tail_of rows (reverse (drop (at + 1) chain)) (reverse (take (at + 1) chain)) (subst (IsChain rows) s c))

-- the lines, with that of the next row
pub one_line_more : (rows : List Row) (w : ℕ) (chain : List ℕ) (at : ℕ) (lines next : List Line) (l : Line) → at < length chain
    → equations rows (reverse (take at chain)) ≡ Ok (reverse lines) → HavePivots w (reverse lines)
    → reduce (reverse lines) (line_of rows (get_or chain at 0)) ≡ Ok l → pivot l < w → next ≡ lines ++ l ∷ []
    → (equations rows (reverse (take (at + 1) chain)) ≡ Ok (reverse next)) × HavePivots w (reverse next)
unfolding HavePivots
one_line_more rows w chain at lines next l h m p r q g =
    let d : reverse next ≡ l ∷ reverse lines = ap (λ z. reverse z) g ∙ snoc lines l in
    let t = taken chain at h in
    rw (d, t) (rw (m, r) refl, (q, p))

pub whole_chain : (chain : List ℕ) (at : ℕ) → at ≤ length chain → length chain ≤ at → take at chain ≡ chain
whole_chain chain at h k = ap (λ n. take n chain) (let e : at ≡ length chain = omega arith in e) ∙ take-length chain
