-- The edges of one row more.
use Rattle.std.proofs.Common.{◌≡◌, ℕ, ◌+◌, ◌-◌, ◌⊎◌, ◌≤◌, inl, inr, List, [], ◌∷◌, ◌++◌, length, get_or, take, sym, ap, subst, ◌∙◌, arith, true, false, Bool, Some}
use Rattle.std.specs.Prelude.{slice_get}
use Rattle.std.proofs.lemmas.Int.{ints}
use Rattle.std.proofs.lemmas.List.{take_more}
use Rattle.std.proofs.lemmas.List.Elements.{All-push, All-weaker, All-nil, Contains-append_left, Contains-push}
use Rattle.std.specs.List.Sorted.{IsPermutation}
use Rattle.std.proofs.lemmas.List.Sorted.{All-permutation, Contains-permutation}
use Rattle.std.proofs.lemmas.Option.{slice_get_within, get_or_from_slice_get}
use Rattle.std.specs.List.{All}
use Rattle.hp_lit.specs.declared.literal.IdxLit.{IdxLit}
use Rattle.hp_lit.specs.Cycle.{turned}
use Rattle.hp_tree.specs.Limits.{largest_bound}
use Rattle.hp_diff.specs.declared.edges.Edge.{Edge}
use Rattle.hp_diff.specs.inner.Labels.{EdgesFit, edge_at, limit_of}
use Rattle.hp_lit.specs.Fit.{IsSmallBound}
use Rattle.hp_diff.specs.inner.Edges.{AreEdges, HasEdge, IsCovered, IsEdgeOf, IsOver}

-- the edges of the first rows
pub record AreBuilt (names : List ℕ) (rows : List IdxLit) (edges : List Edge) (at : ℕ) : Type 0 where
  pub each : All (IsEdgeOf names rows) edges
  pub cover : All (IsCovered names edges) (take at rows)

pub nothing_built : (names : List ℕ) (rows : List IdxLit) → AreBuilt names rows [] 0
nothing_built names rows = record { each = All-nil (IsEdgeOf names rows); cover = All-nil (IsCovered names []) }

has_more : (names : List ℕ) (edges : List Edge) (e : Edge) (row : IdxLit) → HasEdge names edges row → HasEdge names (edges ++ e ∷ []) row
has_more names edges e row h = (h.0, Contains-append_left edges (e ∷ []) h.0 h.1, h.2)

covered_more : (names : List ℕ) (edges : List Edge) (e : Edge) (row : IdxLit) → IsCovered names edges row → IsCovered names (edges ++ e ∷ []) row
covered_more names edges e row c = record {
  forward = has_more names edges e row c.forward;
  backward = λ x. has_more names edges e (turned row false) (c.backward x);
}

-- one more row is covered
next_covered : (names : List ℕ) (rows : List IdxLit) (edges : List Edge) (at : ℕ) (row : IdxLit) → slice_get rows at ≡ Some row
    → All (IsCovered names edges) (take at rows) → IsCovered names edges row → All (IsCovered names edges) (take (at + 1) rows)
next_covered names rows edges at row is all one =
    subst (All (IsCovered names edges)) (sym (take_more rows at row (slice_get_within rows at row is)))
    (All-push (IsCovered names edges) (take at rows) (get_or rows at row) all (subst (IsCovered names edges) (sym (get_or_from_slice_get rows at row row is)) one))

edge_is : (names : List ℕ) (rows : List IdxLit) (at : ℕ) (row : IdxLit) (e : Edge) → slice_get rows at ≡ Some row → e.lit ≡ at + 1
    → (e.forward ≡ true) ⊎ (row.exact ≡ true) → IsOver names e (turned row e.forward) → IsEdgeOf names rows e
edge_is names rows at row e is lit may over =
    let back : e.lit - 1 ≡ at = omega arith in
    record { row = row; lit = omega arith; at = ap (slice_get rows) back ∙ is; may = may; over = over }

pub add_inexact : (names : List ℕ) (rows : List IdxLit) (edges : List Edge) (at : ℕ) (row : IdxLit) (e : Edge) → slice_get rows at ≡ Some row
    → e.lit ≡ at + 1 → e.forward ≡ true → IsOver names e (turned row true) → row.exact ≡ false → AreBuilt names rows edges at → AreBuilt names rows (edges ++ e ∷ []) (at + 1)
add_inexact names rows edges at row e is lit forward over exact b = record {
  each = All-push (IsEdgeOf names rows) edges e b.each (edge_is names rows at row e is lit (inl forward) (subst (λ f. IsOver names e (turned row f)) (sym forward) over));
  cover = next_covered names rows (edges ++ e ∷ []) at row is (All-weaker _ _ (λ r. covered_more names edges e r) (take at rows) b.cover)
      (record { forward = (e, Contains-push edges e, over); backward = λ x. absurd (cc) });
}

pub add_exact : (names : List ℕ) (rows : List IdxLit) (edges : List Edge) (at : ℕ) (row : IdxLit) (e f : Edge) → slice_get rows at ≡ Some row
    → e.lit ≡ at + 1 → e.forward ≡ true → IsOver names e (turned row true) → f.lit ≡ at + 1 → f.forward ≡ false → IsOver names f (turned row false) → row.exact ≡ true
    → AreBuilt names rows edges at → AreBuilt names rows ((edges ++ e ∷ []) ++ f ∷ []) (at + 1)
add_exact names rows edges at row e f is lit forward over lit_f forward_f over_f exact b =
    let first = edges ++ e ∷ [] in
    record {
      each = All-push (IsEdgeOf names rows) first f
          (All-push (IsEdgeOf names rows) edges e b.each (edge_is names rows at row e is lit (inl forward) (subst (λ f. IsOver names e (turned row f)) (sym forward) over)))
          (edge_is names rows at row f is lit_f (inr exact) (subst (λ g. IsOver names f (turned row g)) (sym forward_f) over_f));
      cover = next_covered names rows (first ++ f ∷ []) at row is (All-weaker _ _ (λ r c. covered_more names first f r (covered_more names edges e r c)) (take at rows) b.cover)
          (record {
            forward = (e, Contains-append_left first (f ∷ []) e (Contains-push edges e), over);
            backward = λ x. (f, Contains-push first f, over_f);
          });
    }

-- ---- edges of rows fit
turned_small : (row : IdxLit) (forward : Bool) → IsSmallBound row.bound → IsSmallBound (turned row forward).bound
turned_small row true p = p
turned_small row false p = record { low = (let h = p.high in omega (arith, ints)); high = (let l = p.low in omega (arith, ints)) }

pub edges_fit : (names : List ℕ) (rows : List IdxLit) (edges : List Edge) → largest_bound ≤ limit_of (length names + 1)
    → All (λ row. IsSmallBound row.bound) rows → AreEdges names rows edges → EdgesFit (length names + 1) edges
edges_fit names rows edges wide small a = record {
  each = λ k h.
      (let p : IsEdgeOf names rows (edge_at edges k) = a.each k _ h in
      let at = (edge_at edges k).lit - 1 in
      let row_small : IsSmallBound p.row.bound = subst (λ (r : IdxLit). IsSmallBound r.bound) (get_or_from_slice_get rows at p.row p.row p.at) (small at p.row (slice_get_within rows at p.row p.at)) in
      let bound = turned_small p.row (edge_at edges k).forward row_small in
      record {
        to = omega (arith, p.over.to);
        from = omega (arith, p.over.from);
        low = (let b = p.over.bound in let low = bound.low in omega (arith, ints));
        high = (let b = p.over.bound in let high = bound.high in omega (arith, ints));
      });
}

-- ---- the same edges in another order
moved : (names : List ℕ) (edges sorted : List Edge) (row : IdxLit) → IsPermutation edges sorted → HasEdge names edges row → HasEdge names sorted row
moved names edges sorted row p h = (h.0, Contains-permutation edges sorted h.0 p h.1, h.2)

pub in_any_order : (names : List ℕ) (rows : List IdxLit) (edges sorted : List Edge) → IsPermutation edges sorted → AreEdges names rows edges → AreEdges names rows sorted
in_any_order names rows edges sorted p a = record {
  each = All-permutation (IsEdgeOf names rows) edges sorted p a.each;
  cover = All-weaker (IsCovered names edges) (IsCovered names sorted) (λ row c. record {
    forward = moved names edges sorted row p c.forward;
    backward = λ x. moved names edges sorted (turned row false) p (c.backward x);
  }) rows a.cover;
}
