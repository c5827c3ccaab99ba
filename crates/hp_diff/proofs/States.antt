-- States with one edge more or less, and their cycles.
use Rattle.std.proofs.Common.{◌≡◌, ℕ, ◌-◌, ◌<◌, List, [], ◌∷◌, ◌++◌, length, map, refl, sym, ap, subst, ◌∙◌, inl, inr, arith, append_assoc, add-one, zero, suc, true, false, Some, None}
use Rattle.std.specs.Prelude.{ℤ, pos, ◌+ℤ◌, ◌<ℤ◌, ◌≤ℤ◌}
use Rattle.std.specs.Option.{option_map}
use Rattle.std.proofs.lemmas.Option.{slice_get-map}
use Rattle.std.proofs.lemmas.Int.{ints}
use Rattle.std.proofs.lemmas.List.{get_or_append_left}
use Rattle.std.proofs.lemmas.Bool.{cases_lt}
use Rattle.std.specs.List.{All}
use Rattle.std.proofs.lemmas.List.Elements.{All-tail}
use Rattle.std.proofs.Common.{length-append}
use Rattle.hp_lit.specs.declared.literal.Name.{Name}
use Rattle.hp_lit.specs.declared.literal.IdxLit.{IdxLit}
use Rattle.hp_lit.specs.declared.literal.Lit.TheVariants.{Idx}
use Rattle.hp_lit.specs.declared.proof.Step.{Step}
use Rattle.hp_lit.specs.Cycle.{turned, AreRowsOf, Leads, bound_sum, IsValidIdx}
use Rattle.std.specs.Prelude.{Option}
use Rattle.hp_diff.specs.declared.edges.Edge.{Edge}
use Rattle.hp_diff.specs.inner.Labels.{edge_at, EdgeFits, EdgesFit}
use Rattle.hp_diff.specs.inner.Cycles.{Walk, weight, IsNegativeCycle}
use Rattle.hp_diff.specs.inner.Edges.{step_at}
use Rattle.hp_diff.specs.inner.Settled.{value_at}
use Rattle.hp_diff.specs.declared.net.Net.{Net}
use Rattle.hp_diff.specs.declared.repair.Work.{Work}
use Rattle.hp_diff.specs.declared.state.State.{State}
use Rattle.hp_diff.specs.inner.RowEdges.{node_of, edge_of, back_edges, row_edges, IsEdgeOf, Shows}
use Rattle.hp_diff.specs.inner.Net.{IsCut, with_edge}
use Rattle.hp_diff.specs.inner.Repair.{AreSame, IsWork}
use Rattle.hp_diff.specs.inner.State.{EndsWith, IsCutBack, IsReady, IsRowOff, IsState}
use Rattle.hp_diff.proofs.Linking.{edge_old, edge_last, one_more, snoc_same, linked_more}

pub all_left : {X : Type 0} (P : X → Type 0) (xs ys : List X) → All P (xs ++ ys) → All P xs
all_left P xs ys a k d h = subst P (get_or_append_left xs ys d k h) (a k d (let n = length-append xs ys in omega arith))

pub all_right : {X : Type 0} (P : X → Type 0) (xs ys : List X) → All P (xs ++ ys) → All P ys
all_right P [] ys a = a
all_right P (x ∷ xs) ys a = all_right P xs ys (All-tail P x (xs ++ ys) a)

-- ---- cycles
-- the name of a node
abbrev pub name_at : ℕ → Option Name
name_at zero = None
name_at (suc n) = Some (record { 0 = n })

named : (o : Option Name) → name_at (node_of o) ≡ o
named None = refl
named (Some name) = rw (add-one) refl

module _ (rows : List IdxLit) (edges : List Edge) (each : All (IsEdgeOf rows) edges) where
  -- the rows of a walk, one after the other
  pub record AreWalked (a b : ℕ) (ks : List ℕ) : Type 0 where
    pub rows_of : List IdxLit
    pub are : AreRowsOf (map Idx rows) (map (step_at edges) ks) rows_of
    pub leads : Leads (name_at a) rows_of (name_at b)
    pub sum : bound_sum rows_of ≡ weight edges ks

  walked : (ks : List ℕ) (a b : ℕ) → Walk edges a ks b → AreWalked a b ks
  walked [] a b w = record { rows_of = []; are = tt; leads = ap name_at w; sum = refl }
  walked (k ∷ ks) a b w =
      let e = edge_at edges k in
      let p : IsEdgeOf rows e = each k _ w.0 in
      let r = turned p.row e.forward in
      let rest = walked ks e.from b w.2 in
      let left : name_at e.to ≡ r.left = ap (λ (d : Edge). name_at d.to) p.same ∙ named r.left in
      let right : name_at e.from ≡ r.right = ap (λ (d : Edge). name_at d.from) p.same ∙ named r.right in
      let bound : e.bound ≡ r.bound = ap (λ (d : Edge). d.bound) p.same in
      record {
        rows_of = r ∷ rest.rows_of;
        are = (
          record { lit = p.row; at = (p.lit, slice_get-map Idx rows (e.lit - 1) ∙ ap (option_map Idx) p.at); may = p.may; same = refl },
          rest.are,
        );
        leads = (ap name_at w.1 ∙ left, subst (λ n. Leads n rest.rows_of (name_at b)) right rest.leads);
        sum = λ i. sym bound i +ℤ rest.sum i;
      }

  pub valid_steps : (cycle : List ℕ) → IsNegativeCycle edges cycle → IsValidIdx (map Idx rows) (map (step_at edges) cycle)
  valid_steps cycle c =
      let w = walked cycle c.start c.start c.walk in
      record {
        rows = w.rows_of;
        are_rows = w.are;
        start = name_at c.start;
        cycle = w.leads;
        below = subst (λ s. s <ℤ pos 0) (sym w.sum) c.negative;
      }

pub shows : (edges : List Edge) (cycle : List ℕ) (steps : List Step) → IsNegativeCycle edges cycle → steps ≡ map (step_at edges) cycle → Shows edges steps
shows edges cycle steps c is = record { valid = λ rows each. subst (IsValidIdx (map Idx rows)) (sym is) (valid_steps rows edges each cycle c) }

-- a cycle of fewer edges is one of more
pub shows_more : (edges more : List Edge) (steps : List Step) → Shows edges steps → Shows (edges ++ more) steps
shows_more edges more steps s = record { valid = λ rows each. s.valid rows (all_left (IsEdgeOf rows) edges more each) }

-- ---- one edge more
fits_more : (nodes : ℕ) (edges : List Edge) (e : Edge) → EdgesFit nodes edges → EdgeFits nodes e → EdgesFit nodes (edges ++ e ∷ [])
fits_more nodes edges e f one = record {
  each = λ k k_in. elim (cases_lt k (length edges)) [
    | inl l ↦ subst (EdgeFits nodes) (sym (edge_old edges e k l)) (f.each k l)
    | inr l ↦
        (let n = one_more edges e in
        let is : length edges ≡ k = omega arith in
        subst (λ (j : ℕ). EdgeFits nodes (edge_at (edges ++ e ∷ []) j)) is (subst (EdgeFits nodes) (sym (edge_last edges e)) one))
  ];
}

pub ready_more : (nodes : ℕ) (s : State) (e : Edge) (net : Net) → EdgeFits nodes e → IsState nodes s → net ≡ with_edge s.net e → IsReady nodes (record { net = net; values = s.values; work = s.work })
ready_more nodes s e net f p is =
    let n = one_more s.net.edges e in
    let b = p.base in
    let made : IsReady nodes (record { net = with_edge s.net e; values = s.values; work = s.work }) = record {
      base = record { linked = linked_more nodes s.net e f.from b.linked; fit = fits_more nodes s.net.edges e b.fit f; work = b.work; values = b.values; same = b.same };
      some = omega arith;
      holds = λ k k_in. subst (λ (d : Edge). value_at s.values d.to ≤ℤ (value_at s.values d.from +ℤ d.bound)) (sym (edge_old s.net.edges e k (omega arith))) (p.holds k (omega arith));
    } in
    subst (λ (m : Net). IsReady nodes (record { net = m; values = s.values; work = s.work })) (sym is) made

-- ---- one edge less
pub cut_ready : (nodes : ℕ) (s : State) (net : Net) → IsReady nodes s → IsCut nodes s.net net → IsState nodes (record { net = net; values = s.values; work = s.work })
cut_ready nodes s net p c =
    let n = one_more net.edges c.last in
    let size = ap (length {A = Edge}) c.edges in
    let old : (k : ℕ) → k < length net.edges → edge_at s.net.edges k ≡ edge_at net.edges k = λ k h. ap (λ (es : List Edge). edge_at es k) c.edges ∙ edge_old net.edges c.last k h in
    let b = p.base in
    record {
      base = record {
        linked = c.linked;
        fit = record { each = λ k h. subst (EdgeFits nodes) (old k h) (b.fit.each k (omega arith)) };
        work = b.work;
        values = b.values;
        same = b.same;
      };
      holds = λ k h. subst (λ (d : Edge). value_at s.values d.to ≤ℤ (value_at s.values d.from +ℤ d.bound)) (old k h) (p.holds k (omega arith));
    }

pub ready_state : (nodes : ℕ) (s : State) → 0 < length s.net.edges → IsState nodes s → IsReady nodes s
ready_state nodes s h p = record { base = p.base; some = h; holds = λ k k_in. p.holds k (omega arith) }

pub cut_back : (nodes : ℕ) (s : State) (net : Net) → 0 < length s.net.edges → IsState nodes s → IsCut nodes s.net net → IsCutBack nodes s (record { net = net; values = s.values; work = s.work })
cut_back nodes s net h p c = record {
  state = cut_ready nodes s net (ready_state nodes s h p) c;
  values = refl;
  last = c.last;
  edges = c.edges;
}

-- what was added is taken off again
pub cut_again : (nodes : ℕ) (s now : State) (e : Edge) (mid net : Net) → mid ≡ with_edge s.net e → IsReady nodes now → now.net ≡ mid → IsCut nodes now.net net
    → IsState nodes (record { net = net; values = now.values; work = now.work }) × (net.edges ≡ s.net.edges)
cut_again nodes s now e mid net is p same c = (
  cut_ready nodes now net p c,
  snoc_same net.edges s.net.edges c.last e (sym c.edges ∙ ap (λ (m : Net). m.edges) (same ∙ is)),
)

-- ---- the edges of a row
pub exact_edges : (lit : ℕ) (row : IdxLit) → row.exact ≡ true → row_edges lit row ≡ edge_of lit row true ∷ edge_of lit row false ∷ []
exact_edges lit row e = ap (λ b. edge_of lit row true ∷ back_edges lit row b) e

pub weak_edges : (lit : ℕ) (row : IdxLit) → row.exact ≡ false → row_edges lit row ≡ edge_of lit row true ∷ []
weak_edges lit row e = ap (λ b. edge_of lit row true ∷ back_edges lit row b) e

pub some_edges : (edges : List Edge) (row : IdxLit) → EndsWith edges row → 0 < length edges
some_edges edges row w =
    let n = ap (length {A = Edge}) w.is in
    let m = length-append w.before (row_edges w.lit row) in
    omega arith

two_edges : (es : List Edge) (a b : Edge) → es ++ a ∷ b ∷ [] ≡ (es ++ a ∷ []) ++ b ∷ []
two_edges es a b = sym (append_assoc es (a ∷ []) (b ∷ []))

pub still_some : (nodes : ℕ) (old mid : State) (row : IdxLit) → row.exact ≡ true → EndsWith old.net.edges row → IsCutBack nodes old mid → 0 < length mid.net.edges
still_some nodes old mid row exact w c =
    let first = edge_of w.lit row true in
    let same = snoc_same mid.net.edges (w.before ++ first ∷ []) c.last (edge_of w.lit row false) (sym c.edges ∙ w.is ∙ ap (λ es. w.before ++ es) (exact_edges w.lit row exact) ∙ two_edges w.before first (edge_of w.lit row false)) in
    let n = ap (length {A = Edge}) same in
    let m = one_more w.before first in
    omega arith

pub both_off : (nodes : ℕ) (old mid new : State) (row : IdxLit) → row.exact ≡ true → IsCutBack nodes old mid → IsCutBack nodes mid new → IsRowOff nodes old new row
both_off nodes old mid new row exact a b = record {
  state = b.state;
  values = b.values ∙ a.values;
  edges = λ es lit is.
      (let first = edge_of lit row true in
      let same = snoc_same mid.net.edges (es ++ first ∷ []) a.last (edge_of lit row false) (sym a.edges ∙ is ∙ ap (λ xs. es ++ xs) (exact_edges lit row exact) ∙ two_edges es first (edge_of lit row false)) in
      snoc_same new.net.edges es b.last first (sym b.edges ∙ same));
}

pub one_off : (nodes : ℕ) (old new : State) (row : IdxLit) → row.exact ≡ false → IsCutBack nodes old new → IsRowOff nodes old new row
one_off nodes old new row exact a = record {
  state = a.state;
  values = a.values;
  edges = λ es lit is. snoc_same new.net.edges es a.last (edge_of lit row true) (sym a.edges ∙ is ∙ ap (λ xs. es ++ xs) (weak_edges lit row exact));
}

-- a repair that stops leaves the draft as it was
pub stopped : (nodes : ℕ) (s : State) (w : Work) (draft : List ℤ) (tail : ℕ) → IsReady nodes s → IsWork nodes w tail → length draft ≡ nodes → AreSame nodes draft s.values
    → IsReady nodes (record { net = s.net; values = s.values; work = record { draft = draft; queue = w.queue; place = w.place; parent = w.parent } })
stopped nodes s w draft tail p v count same =
    let b = p.base in
    record {
      base = record {
        linked = b.linked;
        fit = b.fit;
        work = record {
          draft = record {
            count = count;
            low = λ x h. (let e = same x h in let l = b.values.low x h in omega (arith, ints));
            high = λ x h. (let e = same x h in let l = b.values.high x h in omega (arith, ints));
          };
          place = v.place;
          parent = v.parent;
          room = omega arith;
          queued = λ i i_in. absurd (omega arith);
        };
        values = b.values;
        same = same;
      };
      some = p.some;
      holds = p.holds;
    }

-- ---- two edges more
pub both_added : (old mid new : List Edge) (lit : ℕ) (row : IdxLit) → row.exact ≡ true → mid ≡ old ++ edge_of lit row true ∷ [] → new ≡ mid ++ edge_of lit row false ∷ [] → new ≡ old ++ row_edges lit row
both_added old mid new lit row exact a b =
    b ∙ ap (λ es. es ++ edge_of lit row false ∷ []) a ∙ sym (two_edges old (edge_of lit row true) (edge_of lit row false)) ∙ ap (λ es. old ++ es) (sym (exact_edges lit row exact))

pub both_shown : (old mid : List Edge) (lit : ℕ) (row : IdxLit) (steps : List Step) → row.exact ≡ true → mid ≡ old ++ edge_of lit row true ∷ [] → Shows (mid ++ edge_of lit row false ∷ []) steps
    → Shows (old ++ row_edges lit row) steps
both_shown old mid lit row steps exact a s = subst (λ (es : List Edge). Shows es steps) (both_added old mid _ lit row exact a refl) s

pub weak_added : (old new : List Edge) (lit : ℕ) (row : IdxLit) → row.exact ≡ false → new ≡ old ++ edge_of lit row true ∷ [] → new ≡ old ++ row_edges lit row
weak_added old new lit row exact a = a ∙ ap (λ es. old ++ es) (sym (weak_edges lit row exact))

-- the first of two is taken off again
pub first_off : (nodes : ℕ) (now new : State) (old mid : List Edge) (e : Edge) → mid ≡ old ++ e ∷ [] → now.net.edges ≡ mid → IsCutBack nodes now new → IsState nodes new × (new.net.edges ≡ old)
first_off nodes now new old mid e a b c = (c.state, snoc_same new.net.edges old c.last e (sym c.edges ∙ b ∙ a))

pub some_of : (now mid old : List Edge) (e : Edge) → mid ≡ old ++ e ∷ [] → now ≡ mid → 0 < length now
some_of now mid old e a b = (let n = ap (length {A = Edge}) (b ∙ a) in let m = one_more old e in omega arith)
