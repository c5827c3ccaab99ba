-- Rows and their edges.
use Rattle.std.proofs.Common.{◌≡◌, ◌⊎◌, ℕ, ◌+◌, ◌-◌, ◌<◌, ◌≤◌, ◌^◌, List, [], ◌∷◌, ◌++◌, length, map, refl, sym, ap, subst, ◌∙◌, inl, inr, arith, append_assoc, length-append, true, false, Bool, Some, None}
use Rattle.std.specs.Prelude.{MatchOption, Option, slice_get, ℤ, ◌+ℤ◌, ◌-ℤ◌, ◌≤ℤ◌}
use Rattle.std.proofs.lemmas.Int.{ints}
use Rattle.std.proofs.lemmas.Option.{slice_get-get_or}
use Rattle.std.proofs.lemmas.List.{append-nil, get_or_default}
use Rattle.std.proofs.Math.Seq.{get_or-append_seam}
use Rattle.std.specs.List.{All}
use Rattle.std.proofs.lemmas.List.Elements.{All-nil, All-cons, All-append}
use Rattle.hp_math.specs.Rational.{whole, ◌-ℚ◌, ◌≤ℚ◌}
use Rattle.hp_lit.specs.declared.literal.Name.{Name}
use Rattle.hp_lit.specs.declared.literal.IdxLit.{IdxLit}
use Rattle.hp_lit.specs.declared.literal.Lit.TheVariants.{Idx}
use Rattle.hp_lit.specs.declared.proof.Step.{Step}
use Rattle.hp_lit.specs.Truth.{Values, name_value, optional_value, IdxIsTrue}
use Rattle.hp_lit.specs.Cycle.{IsValidIdx}
use Rattle.hp_diff.specs.declared.edges.Edge.{Edge}
use Rattle.hp_diff.specs.inner.Labels.{EdgeFits, EdgesFit}
use Rattle.hp_diff.specs.inner.Settled.{value_at}
use Rattle.hp_diff.proofs.Limits.{limit_least}
use Rattle.hp_diff.proofs.Points.{whole_difference, whole_le}
use Rattle.hp_diff.specs.inner.RowEdges.{node_of, edge_of, edges_of, back_edges, row_edges, IsEdgeOf, Shows}
use Rattle.hp_diff.specs.inner.Repair.{AllHold}
use Rattle.hp_diff.specs.Kept.{AreKept, IsBelow, IsKeepable}
use Rattle.hp_diff.specs.declared.state.State.{State}
use Rattle.hp_diff.specs.inner.State.{IsEmpty, IsState}
use Rattle.hp_diff.proofs.Linking.{snoc_same}
use Rattle.hp_diff.proofs.States.{all_left, all_right}

-- the edges of one row more
pub edges-more : (lit : ℕ) (rows : List IdxLit) (row : IdxLit) → edges_of lit (rows ++ row ∷ []) ≡ edges_of lit rows ++ row_edges (lit + length rows) row
edges-more lit [] row = append-nil (row_edges lit row) ∙ ap (λ n. row_edges n row) (omega arith)
edges-more lit (x ∷ rows) row =
    ap (λ es. row_edges lit x ++ es) (edges-more (lit + 1) rows row)
    ∙ sym (append_assoc (row_edges lit x) (edges_of (lit + 1) rows) (row_edges (lit + 1 + length rows) row))
    ∙ ap (λ n. row_edges lit x ++ edges_of (lit + 1) rows ++ row_edges n row) (omega arith)

-- ---- each edge is one of its row
row_edge : (front rest : List IdxLit) (row : IdxLit) (forward : Bool) → (forward ≡ true) ⊎ (row.exact ≡ true) → IsEdgeOf (front ++ row ∷ rest) (edge_of (length front + 1) row forward)
row_edge front rest row forward may = record {
  row = row;
  lit = omega arith;
  at =
      (let n : length front < length (front ++ row ∷ rest) = (let more = length-append front (row ∷ rest) in omega arith) in
      let at : slice_get (front ++ row ∷ rest) (length front) ≡ Some row = slice_get-get_or (front ++ row ∷ rest) (length front) row n ∙ ap Some (get_or-append_seam front row rest row) in
      let place : length front + 1 - 1 ≡ length front = omega arith in
      ap (slice_get (front ++ row ∷ rest)) place ∙ at);
  may = may;
  same = refl;
}

back_edge : (front rest : List IdxLit) (row : IdxLit) (exact : Bool) → row.exact ≡ exact → All (IsEdgeOf (front ++ row ∷ rest)) (back_edges (length front + 1) row exact)
back_edge front rest row true e = All-cons (IsEdgeOf (front ++ row ∷ rest)) _ [] (row_edge front rest row false (inr e)) (All-nil (IsEdgeOf (front ++ row ∷ rest)))
back_edge front rest row false e = All-nil (IsEdgeOf (front ++ row ∷ rest))

edges_after : (front rows : List IdxLit) → All (IsEdgeOf (front ++ rows)) (edges_of (length front + 1) rows)
edges_after front [] = All-nil (IsEdgeOf (front ++ []))
edges_after front (row ∷ rows) =
    let P = IsEdgeOf (front ++ row ∷ rows) in
    let more : length (front ++ row ∷ []) + 1 ≡ length front + 1 + 1 = ap (λ n. n + 1) (length-append front (row ∷ [])) in
    let rest : All P (edges_of (length front + 1 + 1) rows) =
    subst (λ (n : ℕ). All P (edges_of n rows)) more (subst (λ (rs : List IdxLit). All (IsEdgeOf rs) (edges_of (length (front ++ row ∷ []) + 1) rows)) (append_assoc front (row ∷ []) rows) (edges_after (front ++ row ∷ []) rows)) in
    All-append P (row_edges (length front + 1) row) (edges_of (length front + 1 + 1) rows)
    (All-cons P _ (back_edges (length front + 1) row row.exact) (row_edge front rows row true (inl refl)) (back_edge front rows row row.exact refl))
    rest

pub valid_cycle : (rows : List IdxLit) (row : IdxLit) (edges : List Edge) (lit : ℕ) (steps : List Step) → edges ≡ edges_of 1 rows → lit ≡ length rows + 1 → Shows (edges ++ row_edges lit row) steps
    → IsValidIdx (map Idx (rows ++ row ∷ [])) steps
valid_cycle rows row edges lit steps is lit_is s =
    let whole : edges_of 1 (rows ++ row ∷ []) ≡ edges ++ row_edges lit row = edges-more 1 rows row ∙ ap (λ es. es ++ row_edges (1 + length rows) row) (sym is) ∙ ap (λ n. edges ++ row_edges n row) (omega arith) in
    s.valid (rows ++ row ∷ []) (subst (All (IsEdgeOf (rows ++ row ∷ []))) whole (edges_after [] (rows ++ row ∷ [])))

-- ---- a row's edges fit
pub named_below : (names : ℕ) (o : Option Name) → IsBelow names o → node_of o < names + 1
named_below names None h = omega arith
named_below names (Some n) h = omega arith

pub row_fits : (names : ℕ) (row : IdxLit) (lit : ℕ) → names ≤ 4000 → IsKeepable names row → (forward : Bool) → EdgeFits (names + 1) (edge_of lit row forward)
row_fits names row lit few k true =
    let wide = limit_least (names + 1) (10 ^ 32) (omega arith) (omega arith) in
    let low = k.low in let high = k.high in
    record { to = named_below names row.left k.left; from = named_below names row.right k.right; low = omega (arith, ints); high = omega (arith, ints) }
row_fits names row lit few k false =
    let wide = limit_least (names + 1) (10 ^ 32) (omega arith) (omega arith) in
    let low = k.low in let high = k.high in
    record { to = named_below names row.right k.right; from = named_below names row.left k.left; low = omega (arith, ints); high = omega (arith, ints) }

-- ---- rows are true where their edges hold
module _ (names : ℕ) (values : List ℤ) (v : Values) (agree : (n : ℕ) → n < names → name_value v n ≡ whole (value_at values (n + 1) -ℤ value_at values 0)) where
  abbrev Keeps : Edge → Type 0
  Keeps e = (e.to < names + 1) × (e.from < names + 1) × (value_at values e.to ≤ℤ (value_at values e.from +ℤ e.bound))

  node_value : (o : Option Name) → node_of o < names + 1 → optional_value v o ≡ whole (value_at values (node_of o) -ℤ value_at values 0)
  node_value None h = ap whole (omega (arith, ints))
  node_value (Some n) h = agree n.0 (omega arith)

  difference : (a b : Option Name) → node_of a < names + 1 → node_of b < names + 1
      → optional_value v a -ℚ optional_value v b ≡ whole (value_at values (node_of a) -ℤ value_at values (node_of b))
  difference a b ha hb =
      (λ i. node_value a ha i -ℚ node_value b hb i)
      ∙ whole_difference (value_at values (node_of a) -ℤ value_at values 0) (value_at values (node_of b) -ℤ value_at values 0)
      ∙ ap whole (omega (arith, ints))

  row_true : (row : IdxLit) (lit : ℕ) (exact : Bool) → row.exact ≡ exact → Keeps (edge_of lit row true) → All Keeps (back_edges lit row exact) → IdxIsTrue v row
  row_true row lit false e k b =
      let kept = k.2 in
      inl (e, subst (λ q. q ≤ℚ whole row.bound) (sym (difference row.left row.right k.0 k.1)) (whole_le _ _ (omega (arith, ints))))
  row_true row lit true e k b =
      let kept = k.2 in
      let back = (b 0 (edge_of lit row false) (omega arith)).2 in
      inr (difference row.left row.right k.0 k.1 ∙ ap whole (omega (arith, ints)))

  all_true : (rows : List IdxLit) (lit : ℕ) → All Keeps (edges_of lit rows) → All (IdxIsTrue v) rows
  all_true [] lit a = All-nil (IdxIsTrue v)
  all_true (row ∷ rows) lit a =
      let mine = all_left Keeps (row_edges lit row) (edges_of (lit + 1) rows) a in
      All-cons (IdxIsTrue v) row rows
      (row_true row lit row.exact refl (mine 0 (edge_of lit row true) (omega arith)) (all_right Keeps (edge_of lit row true ∷ []) (back_edges lit row row.exact) mine))
      (all_true rows (lit + 1) (all_right Keeps (row_edges lit row) (edges_of (lit + 1) rows) a))

  pub rows_true : (rows : List IdxLit) (edges : List Edge) → edges ≡ edges_of 1 rows → EdgesFit (names + 1) edges → AllHold edges values → All (IdxIsTrue v) rows
  rows_true rows edges is f h =
      let each : All Keeps edges = λ k d k_in. subst Keeps (get_or_default edges k _ d k_in) ((f.each k k_in).to, (f.each k k_in).from, h k k_in) in
      all_true rows 1 (subst (All Keeps) is each)

-- no edges are those of no rows
pub no_rows : (rows : List IdxLit) (edges : List Edge) → edges ≡ [] → edges ≡ edges_of 1 rows → rows ≡ []
no_rows [] edges e is = refl
no_rows (row ∷ rows) edges e is = absurd (let n = ap (length {A = Edge}) (sym e ∙ is) in let m = length-append (row_edges 1 row) (edges_of 2 rows) in omega arith)

-- ---- the fields of kept rows
pub kept_state : (nodes : ℕ) (s : State) (rows rest : List IdxLit) (row : IdxLit) → s.net.edges ≡ edges_of 1 rows → IsState nodes s ⊎ IsEmpty s → rows ≡ rest ++ row ∷ [] → IsState nodes s
kept_state nodes s rows rest row is (inl p) e = p
kept_state nodes s rows rest row is (inr p) e = absurd (let n = ap (length {A = IdxLit}) (sym (no_rows rows s.net.edges p.edges is) ∙ e) in let m = length-append rest (row ∷ []) in omega arith)

pub ends_with : (edges : List Edge) (rows rest : List IdxLit) (row : IdxLit) → edges ≡ edges_of 1 rows → rows ≡ rest ++ row ∷ [] → edges ≡ edges_of 1 rest ++ row_edges (1 + length rest) row
ends_with edges rows rest row is e = is ∙ ap (edges_of 1) e ∙ edges-more 1 rest row

pub all_kept : (names : ℕ) (rows : List IdxLit) (s : State) → s.net.edges ≡ edges_of 1 rows → IsState (names + 1) s ⊎ IsEmpty s → AreKept (record { names = names; rows = rows; nodes = s.values })
all_kept names rows s is (inl p) v agree = rows_true names s.values v agree rows s.net.edges is p.base.fit p.holds
all_kept names rows s is (inr p) v agree = subst (All (IdxIsTrue v)) (sym (no_rows rows s.net.edges p.edges is)) (All-nil (IdxIsTrue v))

pub pushed_edges : (all rows : List IdxLit) (row : IdxLit) (edges old : List Edge) (lit : ℕ) → edges ≡ old ++ row_edges lit row → old ≡ edges_of 1 rows → lit ≡ length rows + 1 → all ≡ rows ++ row ∷ []
    → edges ≡ edges_of 1 all
pushed_edges all rows row edges old lit e is lit_is all_is =
    e ∙ ap (λ es. es ++ row_edges lit row) is ∙ ap (λ n. edges_of 1 rows ++ row_edges n row) (omega arith) ∙ sym (edges-more 1 rows row) ∙ ap (edges_of 1) (sym all_is)

pub popped : (o : Option IdxLit) (old new rows : List IdxLit) (row : IdxLit) → MatchOption o ((old ≡ []) × (new ≡ [])) (λ last. old ≡ new ++ last ∷ []) → old ≡ rows ++ row ∷ [] → new ≡ rows
popped None old new rows row m e = absurd (let n = ap (length {A = IdxLit}) (sym m.0 ∙ e) in let k = length-append rows (row ∷ []) in omega arith)
popped (Some last) old new rows row m e = snoc_same new rows last row (sym m ∙ e)
