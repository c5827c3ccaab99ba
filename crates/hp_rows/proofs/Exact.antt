-- What was computed with no number that is too wide is the exact number.
use Rattle.std.proofs.Common.{◌≡◌, ℕ, zero, suc, ◌<◌, ℤ, pos, refl, ◌∙◌, ap, arith, Ok, List, [], ◌∷◌, length, set, take, drop, ◌++◌, ◌≤◌, true, false, cond}
use Rattle.std.proofs.lemmas.List.{get_or-take, length-take-le, append-nil}
use Rattle.std.proofs.Math.ListN.{drop_of_length-le}
use Rattle.hp_math.specs.Rational.{ℚ, whole, ◌+ℚ◌, ◌*ℚ◌, ◌-ℚ◌, neg_ℚ, recip}
use Rattle.hp_math.proofs.Field.{by_common1, by_common3, at_one, fractions, whole_at}
use Rattle.hp_num.specs.Wide.{◌>>=◌, mul_sub_of, mul_of, sub_of, div_of}
use Rattle.hp_rows.specs.declared.row.Row.{Row}
use Rattle.hp_rows.specs.Rows.{dot}
use Rattle.hp_rows.specs.Arithmetic.{is_nothing}
use Rattle.hp_rows.specs.Lines.{Line, entry, pivot, line_of, row_share, line_share, subtract, divided, clear, reduce, equations}
use Rattle.hp_rows.specs.Points.{at_point, rest_of, coordinate, solve, zeros, quotients, values_of}
use Rattle.hp_rows.specs.Exact.{exact_subtract, exact_clear, exact_reduce, exact_equations, exact_coordinate, exact_solve, AreQuotients}
use Rattle.hp_rows.specs.Laws.{PointsAreExact, PointsMeetChains}
use Rattle.hp_num.proofs.Given.{came, mul_gave, add_gave, mul_sub_gave}
use Rattle.hp_rows.proofs.Number.{quotient_gave}
use Rattle.hp_rows.proofs.Moves.{equations_gave}
use Rattle.hp_rows.proofs.Point.{point_meets}

subtract_exact : (d : ℤ) (row : Line) (c : ℤ) (g out : Line) → subtract d row c g ≡ Ok out → out ≡ exact_subtract d row c g
subtract_exact d [] c g out h = cc
subtract_exact d (r ∷ rs) c [] out h = cc
subtract_exact d (r ∷ rs) c (g ∷ gs) out h =
    let x = came (mul_sub_of d r c g) (λ z. subtract d rs c gs >>= λ zs. Ok (z ∷ zs)) out h in
    let y = came (subtract d rs c gs) (λ zs. Ok (x.value ∷ zs)) out x.rest in
    let e : out ≡ x.value ∷ y.value = cc in
    e ∙ (λ i. mul_sub_gave d r c g x.value x.first i ∷ subtract_exact d rs c gs y.value y.first i)

clear_exact : (g row out : Line) → clear g row ≡ Ok out → out ≡ exact_clear g row
clear_exact g row out h =
    (elim (is_nothing (entry row (pivot g))) as (λ t. cond t (Ok row) (subtract (row_share g row) row (line_share g row) g >>= λ line. Ok (divided line)) ≡ Ok out
    → out ≡ cond t row (divided (exact_subtract (row_share g row) row (line_share g row) g))) [
      | true ↦ λ q. (let e : out ≡ row = cc in e)
      | false ↦ λ q.
          (let x = came (subtract (row_share g row) row (line_share g row) g) (λ line. Ok (divided line)) out q in
          let e : out ≡ divided x.value = cc in
          e ∙ ap (λ l. divided l) (subtract_exact (row_share g row) row (line_share g row) g x.value x.first))
    ]) h

reduce_exact : (gs : List Line) (row out : Line) → reduce gs row ≡ Ok out → out ≡ exact_reduce gs row
reduce_exact [] row out h = cc
reduce_exact (g ∷ gs) row out h =
    let x = came (reduce gs row) (λ line. clear g line) out h in
    clear_exact g x.value out x.rest ∙ ap (λ l. exact_clear g l) (reduce_exact gs row x.value x.first)

equations_exact : (rows : List Row) (es : List ℕ) (gs : List Line) → equations rows es ≡ Ok gs → gs ≡ exact_equations rows es
equations_exact rows [] gs h = cc
equations_exact rows (e ∷ es) gs h =
    let x = came (equations rows es) (λ hs. reduce hs (line_of rows e) >>= λ g. Ok (g ∷ hs)) gs h in
    let y = came (reduce x.value (line_of rows e)) (λ g. Ok (g ∷ x.value)) gs x.rest in
    let s : gs ≡ y.value ∷ x.value = cc in
    let more = equations_exact rows es x.value x.first in
    s ∙ (λ i. (reduce_exact x.value (line_of rows e) y.value y.first ∙ ap (λ hs. exact_reduce hs (line_of rows e)) more) i ∷ more i)

-- ---- coordinates
less_none : (r : ℚ) → r ≡ r -ℚ whole (pos 0)
less_none = by_common1 (λ r. r ≡ r -ℚ whole (pos 0)) (λ k a. simp (whole_at (pos 0) k, at_one) (omega (arith, fractions)))

less_both : (r p q : ℚ) → (r -ℚ p) -ℚ q ≡ r -ℚ (p +ℚ q)
less_both = by_common3 (λ r p q. (r -ℚ p) -ℚ q ≡ r -ℚ (p +ℚ q)) (λ k a b c. simp at_one (omega (arith, fractions)))

rest_exact : (rest : ℚ) (cs : Line) (xs : List ℚ) (a : ℚ) → rest_of rest cs xs ≡ Ok a → a ≡ rest -ℚ dot (take (length xs) cs) (at_point xs)
rest_exact rest [] [] a h = (let e : a ≡ rest = cc in e ∙ less_none rest)
rest_exact rest (c ∷ cs) [] a h = (let e : a ≡ rest = cc in e ∙ less_none rest)
rest_exact rest [] (x ∷ xs) a h = (let e : a ≡ rest = cc in e ∙ less_none rest)
rest_exact rest (c ∷ cs) (x ∷ xs) a h =
    let s = came (mul_of (whole c) x) (λ y. sub_of rest y >>= λ b. rest_of b cs xs) a h in
    let t = came (sub_of rest s.value) (λ b. rest_of b cs xs) a s.rest in
    rest_exact t.value cs xs a t.rest
    ∙ (λ i. (add_gave rest (neg_ℚ s.value) t.value t.first ∙ ap (λ q. rest -ℚ q) (mul_gave (whole c) x s.value s.first)) i -ℚ dot (take (length xs) cs) (at_point xs))
    ∙ less_both rest (whole c *ℚ x) (dot (take (length xs) cs) (at_point xs))

coordinate_exact : (g : Line) (xs : List ℚ) (y : ℚ) → coordinate g xs ≡ Ok y → y ≡ exact_coordinate g xs
coordinate_exact g xs y h =
    let v = whole (entry g (pivot g)) in
    let s = came (rest_of (whole (entry g (length xs))) g xs) (λ a. div_of a v) y h in
    mul_gave s.value (recip v) y s.rest ∙ ap (λ a. a *ℚ recip v) (rest_exact (whole (entry g (length xs))) g xs s.value s.first)

solve_exact : (gs : List Line) (xs out : List ℚ) → solve gs xs ≡ Ok out → out ≡ exact_solve gs xs
solve_exact [] xs out h = cc
solve_exact (g ∷ gs) xs out h =
    let t = came (coordinate g xs) (λ y. solve gs (set xs (pivot g) y)) out h in
    solve_exact gs (set xs (pivot g) t.value) out t.rest ∙ ap (λ y. exact_solve gs (set xs (pivot g) y)) (coordinate_exact g xs t.value t.first)

pub points_are_exact : PointsAreExact
points_are_exact rows w chain point p = solve_exact p.lines (zeros w) point p.solved ∙ ap (λ gs. exact_solve gs (zeros w)) (equations_exact rows chain p.lines p.made)

pub points_meet_chains : PointsMeetChains
points_meet_chains rows w chain point wide p =
    point_meets rows w chain p.lines point (equations_gave rows w chain p.lines wide p.is_chain p.pivots p.made) p.pivots p.solved

-- ---- values
pub record Quotients (t : ℚ) (xs ys : List ℚ) : Type 0 where
  pub count : length ys ≡ length xs
  pub each : (k : ℕ) → k < length xs → at_point ys k *ℚ t ≡ at_point xs k

quotients_gave : (t : ℚ) (xs ys : List ℚ) → ¬ (t ≡ whole (pos 0)) → quotients t xs ≡ Ok ys → Quotients t xs ys
quotients_gave t [] ys n h = (let e : ys ≡ [] = cc in rw e (record { count = refl; each = λ k l. absurd (omega arith) }))
quotients_gave t (x ∷ xs) ys n h =
    let a = came (div_of x t) (λ y. quotients t xs >>= λ zs. Ok (y ∷ zs)) ys h in
    let b = came (quotients t xs) (λ zs. Ok (a.value ∷ zs)) ys a.rest in
    let e : ys ≡ a.value ∷ b.value = cc in
    let more = quotients_gave t xs b.value n b.first in
    rw e (record { count = ap suc more.count; each = at_each t x a.value xs b.value (quotient_gave x t a.value n a.first) more })
  where
    at_each : (t x y : ℚ) (xs zs : List ℚ) → y *ℚ t ≡ x → Quotients t xs zs → (k : ℕ) → k < length (x ∷ xs) → at_point (y ∷ zs) k *ℚ t ≡ at_point (x ∷ xs) k
    at_each t x y xs zs e m zero l = e
    at_each t x y xs zs e m (suc k) l = m.each k (omega arith)

pub are_quotients : (t : ℕ) (xs ys : List ℚ) → t < length xs → ¬ (at_point xs t ≡ whole (pos 0)) → values_of t xs ≡ Ok ys → AreQuotients t xs ys
are_quotients t xs ys l n h =
    let q = quotients_gave (at_point xs t) (take t xs) ys n h in
    let e : length (take t xs) ≡ t = length-take-le t xs (omega arith) in
    record { count = q.count ∙ e; each = λ k p. q.each k (rw e p) ∙ get_or-take t xs k (whole (pos 0)) p }

-- where all coordinates were divided
pub values_end : (t at : ℕ) (xs out : List ℚ) → t ≤ length xs → t ≤ at
    → quotients (at_point xs t) (take t xs) ≡ (quotients (at_point xs t) (drop at (take t xs)) >>= λ ys. Ok (out ++ ys)) → values_of t xs ≡ Ok out
values_end t at xs out l e h =
    let d : drop at (take t xs) ≡ [] = drop_of_length-le (take t xs) (let s = length-take-le t xs l in omega arith) in
    h ∙ ap (λ zs. quotients (at_point xs t) zs >>= λ ys. Ok (out ++ ys)) d ∙ ap Ok (append-nil out)
