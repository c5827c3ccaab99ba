-- The point that is located for a chain, and the numbers of its rows.
use Rattle.std.proofs.Common.{◌≡◌, ℕ, suc, ◌<◌, inl, inr, pos, refl, sym, ◌∙◌, subst, arith, List, [], ◌∷◌, length, map, reverse, Ok, Err}
use Rattle.std.specs.List.{All}
use Rattle.std.proofs.lemmas.List.Elements.{All-cons, All-nil}
use Rattle.std.specs.declared.cmp.Ordering.{Ordering}
use Rattle.hp_math.specs.Rational.{ℚ, whole}
use Rattle.hp_lit.specs.declared.literal.NumLit.{NumLit}
use Rattle.hp_lit.specs.declared.valuation.NameValue.{NameValue}
use Rattle.hp_rows.specs.declared.row.Row.{Row}
use Rattle.hp_rows.specs.declared.answer.Located.{Located}
use Rattle.hp_rows.specs.Rows.{IsChain, HoldsBelow}
use Rattle.hp_rows.specs.Points.{at_point, IsPointOf}
use Rattle.hp_rows.specs.Exact.{exact_point}
use Rattle.hp_rows.specs.Answers.{IsPoint, Locates}
use Rattle.hp_rows.proofs.Exact.{points_are_exact, points_meet_chains}
use Rattle.hp_descent.specs.Columns.{columns}
use Rattle.hp_descent.specs.LiteralRows.{rows_of, width_of}
use Rattle.hp_descent.specs.declared.answer.At.TheVariants as at
use Rattle.hp_descent.specs.declared.answer.Form.TheVariants as form
use Rattle.hp_descent.specs.declared.answer.RowStrain.{RowStrain}
use Rattle.hp_descent.specs.declared.answer.DescentErr.{DescentErr}
use Rattle.hp_descent.specs.declared.answer.DescentErr.TheVariants as failure
use Rattle.hp_descent.specs.Answers.{IsChainSolution, IsCause}
use Rattle.hp_descent.specs.Values.{HoldsAtChain, IsCompared, ComparesAt, Stands, sum_at, value_in}
use Rattle.hp_descent.proofs.Numbering.{are_wide}
use Rattle.hp_descent.proofs.Addition.{whole_sum}

-- ---- row numbers that count from 1
above_none : (rows : List ℕ) → All (λ n. 0 < n) (map suc rows)
above_none [] = All-nil (λ n. 0 < n)
above_none (r ∷ rs) = All-cons (λ n. 0 < n) (suc r) (map suc rs) (omega arith) (above_none rs)

pub count_from_one : (lits : List NumLit) (chain : List ℕ) → HoldsAtChain lits chain → All (λ n. 0 < n) chain
count_from_one lits chain h = subst (All (λ n. 0 < n)) (sym h.numbers) (above_none h.rows)

same_numbers : (xs ys : List ℕ) → map suc xs ≡ map suc ys → xs ≡ ys
same_numbers [] [] e = refl
same_numbers [] (y ∷ ys) e = cc
same_numbers (x ∷ xs) [] e = cc
same_numbers (x ∷ xs) (y ∷ ys) e =
    let a : suc x ≡ suc y = cc in
    let b : map suc xs ≡ map suc ys = cc in
    let d : x ≡ y = omega arith in
    (λ i. d i ∷ same_numbers xs ys b i)

-- ---- the chain of these rows and its point
module _ (lits : List NumLit) (chain rows : List ℕ) (h : HoldsAtChain lits chain) (numbers : map suc rows ≡ chain) where
  same : h.rows ≡ rows
  same = same_numbers h.rows rows (sym h.numbers ∙ sym numbers)

  pub is_chain : IsChain (rows_of lits) (reverse rows)
  is_chain = subst (λ rs. IsChain (rows_of lits) (reverse rs)) same h.is_chain

  pub is_point : (point : List ℚ) → IsPointOf (rows_of lits) (width_of lits) (reverse rows) point → IsPoint (rows_of lits) (width_of lits) rows point
  is_point point p = record {
    size = (points_meet_chains (rows_of lits) (width_of lits) (reverse rows) point (are_wide (columns lits) lits) p).0;
    point_of_chain = p;
    holds = subst (λ q. HoldsBelow (rows_of lits) (length (rows_of lits)) (at_point q)) (sym (points_are_exact (rows_of lits) (width_of lits) (reverse rows) point p))
        (subst (λ rs. HoldsBelow (rows_of lits) (length (rows_of lits)) (at_point (exact_point (width_of lits) (rows_of lits) (reverse rs)))) same h.holds);
  }

pub same_located : (lits : List NumLit) (w : ℕ) (rows : List Row) (chain : List ℕ) (l : Located) → rows ≡ rows_of lits → w ≡ width_of lits → Locates rows w chain l
    → Locates (rows_of lits) (width_of lits) chain l
same_located lits w rows chain l e f h = subst (λ rs. Locates rs (width_of lits) chain l) e (subst (λ v. Locates rows v chain l) f h)

-- every row holds at the point of a chain that gives a solution
pub solution_holds : (lits : List NumLit) (chain : List ℕ) (values : List NameValue) → IsChainSolution lits chain values → HoldsAtChain lits chain
solution_holds lits chain values s = record {
  rows = s.rows;
  numbers = s.numbers;
  is_chain = s.is_point.point_of_chain.is_chain;
  holds = subst (λ q. HoldsBelow (rows_of lits) (length (rows_of lits)) (at_point q))
      (points_are_exact (rows_of lits) (width_of lits) (reverse s.rows) s.point s.is_point.point_of_chain) s.is_point.holds;
}

-- ---- what is answered at the values of a chain
pub compared : (lits : List NumLit) (chain : List ℕ) (other : NumLit) (values : List NameValue) (sum : ℚ) (o : Ordering) → IsChainSolution lits chain values
    → sum_at (value_in values) (whole (pos 0)) other.parts ≡ Ok sum → Stands o sum (whole other.bound) → IsCompared lits chain other o
compared lits chain other values sum o s e h = record {
  values = values;
  solution = s;
  stands = subst (λ q. Stands o q (whole other.bound)) (whole_sum (value_in values) other.parts sum e) h;
}

pub asked : (lits : List NumLit) (chain : List ℕ) (other : NumLit) (values : List NameValue) (s : RowStrain) → IsChainSolution lits chain values → s.chain ≡ chain
    → s.at ≡ at.Literal 0 0 → s.form ≡ form.Sum → sum_at (value_in values) (whole (pos 0)) other.parts ≡ Err s.wide → ComparesAt lits chain other (Err (failure.Strain s))
asked lits chain other values s solution c a f e = inr (record {
  numbers = c;
  at = a;
  sum = record { values = values; solution = subst (λ l. IsChainSolution lits l values) (sym c) solution; form = f; strained = e };
})

pub passed_on : (lits : List NumLit) (chain : List ℕ) (other : NumLit) (e : DescentErr) → IsCause lits e → ComparesAt lits chain other (Err e)
passed_on lits chain other (failure.Strain s) h = inl h
passed_on lits chain other failure.Memory h = tt
