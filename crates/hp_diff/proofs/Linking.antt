-- Edges that are linked and cut.
use Rattle.std.proofs.Common.{◌≡◌, ℕ, ◌+◌, ◌<◌, ◌≤◌, List, [], ◌∷◌, ◌++◌, length, take, set, sym, ap, subst, ◌∙◌, inl, inr, arith, length-append, get_or-set_same, get_or-set_other}
use Rattle.std.proofs.lemmas.List.{get_or_append_left, length-set}
use Rattle.std.proofs.Math.Seq.{get_or-append_seam, take-append_seam}
use Rattle.std.proofs.lemmas.Bool.{cases_eq, cases_lt}
use Rattle.hp_diff.specs.declared.edges.Edge.{Edge}
use Rattle.hp_diff.specs.inner.Labels.{edge_at, EdgesFit}
use Rattle.hp_diff.specs.declared.net.Net.{Net}
use Rattle.hp_diff.specs.inner.Net.{number_at, IsCut, IsLinked, IsNewest, with_edge}

pub edge_old : (edges : List Edge) (e : Edge) (k : ℕ) → k < length edges → edge_at (edges ++ e ∷ []) k ≡ edge_at edges k
edge_old edges e k h = get_or_append_left edges (e ∷ []) _ k h

pub edge_last : (edges : List Edge) (e : Edge) → edge_at (edges ++ e ∷ []) (length edges) ≡ e
edge_last edges e = get_or-append_seam edges e [] _

pub one_more : (edges : List Edge) (e : Edge) → length (edges ++ e ∷ []) ≡ length edges + 1
one_more edges e = length-append edges (e ∷ [])

pub snoc_same : {X : Type 0} (xs ys : List X) (a b : X) → xs ++ a ∷ [] ≡ ys ++ b ∷ [] → xs ≡ ys
snoc_same {X} xs ys a b e =
    let more = length-append xs (a ∷ []) in
    let more' = length-append ys (b ∷ []) in
    let whole = ap (length {A = X}) e in
    let n : length xs ≡ length ys = omega arith in
    sym (take-append_seam xs (a ∷ [])) ∙ ap (take (length xs)) e ∙ ap (λ (k : ℕ). take k (ys ++ b ∷ [])) n ∙ take-append_seam ys (b ∷ [])

newest_more : (edges : List Edge) (e : Edge) (count x f : ℕ) → count ≤ length edges → IsNewest edges count x f → IsNewest (edges ++ e ∷ []) count x f
newest_more edges e count x f h p = record {
  within = p.within;
  own = λ k is. (let k_in : k < length edges = omega (arith, p.within) in ap (λ (d : Edge). d.from) (edge_old edges e k k_in) ∙ p.own k is);
  none = λ k le lt from. p.none k le lt (ap (λ (d : Edge). d.from) (sym (edge_old edges e k (omega arith))) ∙ from);
}

newest_less : (edges : List Edge) (e : Edge) (count x f : ℕ) → count ≤ length edges → IsNewest (edges ++ e ∷ []) count x f → IsNewest edges count x f
newest_less edges e count x f h p = record {
  within = p.within;
  own = λ k is. (let k_in : k < length edges = omega (arith, p.within) in ap (λ (d : Edge). d.from) (sym (edge_old edges e k k_in)) ∙ p.own k is);
  none = λ k le lt from. p.none k le lt (ap (λ (d : Edge). d.from) (edge_old edges e k (omega arith)) ∙ from);
}

module _ (nodes : ℕ) (net : Net) (e : Edge) (h : e.from < nodes) (p : IsLinked nodes net) where
  abbrev n : ℕ
  n = length net.edges

  abbrev edges : List Edge
  edges = net.edges ++ e ∷ []

  first_more : (x : ℕ) → x < nodes → IsNewest edges (length edges) x (number_at (set net.first e.from (n + 1)) x)
  first_more x x_in =
      let more = one_more net.edges e in
      elim (cases_eq x e.from) [
        | inl is ↦
            (let same : number_at (set net.first e.from (n + 1)) x ≡ n + 1 = ap (number_at (set net.first e.from (n + 1))) is ∙ get_or-set_same net.first e.from (n + 1) 0 (omega (arith, p.nodes_first)) in
            subst (IsNewest edges (length edges) x) (sym same) (record {
              within = omega arith;
              own = λ k k_is. (let k_n : k ≡ n = omega arith in ap (λ (j : ℕ). (edge_at edges j).from) k_n ∙ ap (λ (d : Edge). d.from) (edge_last net.edges e) ∙ sym is);
              none = λ k le lt from. omega arith;
            }))
        | inr ne ↦
            (let same : number_at (set net.first e.from (n + 1)) x ≡ number_at net.first x = get_or-set_other net.first e.from x (n + 1) 0 ne in
            let old = newest_more net.edges e n x _ (omega arith) (p.first x x_in) in
            subst (IsNewest edges (length edges) x) (sym same) (record {
              within = omega (arith, old.within);
              own = old.own;
              none = λ k le lt from. elim (cases_lt k n) [
                | inl l ↦ old.none k le l from
                | inr l ↦ (let k_n : k ≡ n = omega arith in ne (sym from ∙ ap (λ (j : ℕ). (edge_at edges j).from) k_n ∙ ap (λ (d : Edge). d.from) (edge_last net.edges e)))
              ];
            }))
      ]

  next_more : (k : ℕ) → k < length edges → IsNewest edges k (edge_at edges k).from (number_at (net.next ++ number_at net.first e.from ∷ []) k)
  next_more k k_in =
      let more = one_more net.edges e in
      let b = number_at net.first e.from in
      elim (cases_lt k n) [
        | inl l ↦
            (let from : (edge_at net.edges k).from ≡ (edge_at edges k).from = ap (λ (d : Edge). d.from) (sym (edge_old net.edges e k l)) in
            let same : number_at net.next k ≡ number_at (net.next ++ b ∷ []) k = sym (get_or_append_left net.next (b ∷ []) 0 k (omega (arith, p.edges_next))) in
            subst (λ (x : ℕ). IsNewest edges k x (number_at (net.next ++ b ∷ []) k)) from
            (subst (IsNewest edges k (edge_at net.edges k).from) same (newest_more net.edges e k _ _ (omega arith) (p.next k l))))
        | inr l ↦
            (let k_n : n ≡ k = omega arith in
            let from : e.from ≡ (edge_at edges n).from = ap (λ (d : Edge). d.from) (sym (edge_last net.edges e)) in
            let same : b ≡ number_at (net.next ++ b ∷ []) n = sym (ap (number_at (net.next ++ b ∷ [])) (sym p.edges_next) ∙ get_or-append_seam net.next b [] 0) in
            subst (λ (j : ℕ). IsNewest edges j (edge_at edges j).from (number_at (net.next ++ b ∷ []) j)) k_n
            (subst (λ (x : ℕ). IsNewest edges n x (number_at (net.next ++ b ∷ []) n)) from
            (subst (IsNewest edges n e.from) same (newest_more net.edges e n e.from b (omega arith) (p.first e.from h)))))
      ]

  pub linked_more : IsLinked nodes (with_edge net e)
  linked_more = record {
    nodes_first = length-set net.first e.from (n + 1) ∙ p.nodes_first;
    edges_next = length-append net.next (number_at net.first e.from ∷ []) ∙ ap (λ (k : ℕ). k + 1) p.edges_next ∙ sym (one_more net.edges e);
    first = first_more;
    next = next_more;
  }

module _ (nodes : ℕ) (edges : List Edge) (e : Edge) (next : List ℕ) (b : ℕ) (first : List ℕ) (h : e.from < nodes)
    (p : IsLinked nodes (record { edges = edges ++ e ∷ []; next = next ++ b ∷ []; first = first })) where
  abbrev count : ℕ
  count = length edges

  next_size : length next ≡ count
  next_size = (let more = one_more edges e in let more' = length-append next (b ∷ []) in let both = p.edges_next in omega arith)

  last_newest : IsNewest edges count e.from b
  last_newest =
      let more = one_more edges e in
      let last = p.next count (omega arith) in
      let from : (edge_at (edges ++ e ∷ []) count).from ≡ e.from = ap (λ (d : Edge). d.from) (edge_last edges e) in
      let same : number_at (next ++ b ∷ []) count ≡ b = ap (number_at (next ++ b ∷ [])) (sym next_size) ∙ get_or-append_seam next b [] 0 in
      newest_less edges e count e.from b (omega arith) (subst (λ (x : ℕ). IsNewest (edges ++ e ∷ []) count x b) from (subst (IsNewest (edges ++ e ∷ []) count _) same last))

  pub linked_less : IsLinked nodes (record { edges = edges; next = next; first = set first e.from b })
  linked_less = record {
    nodes_first = length-set first e.from b ∙ p.nodes_first;
    edges_next = next_size;
    first = λ x x_in. elim (cases_eq x e.from) [
      | inl is ↦
          (let same : number_at (set first e.from b) x ≡ b = ap (number_at (set first e.from b)) is ∙ get_or-set_same first e.from b 0 (omega (arith, p.nodes_first)) in
          subst (IsNewest edges count x) (sym same) (subst (λ (y : ℕ). IsNewest edges count y b) (sym is) last_newest))
      | inr ne ↦
          (let same : number_at (set first e.from b) x ≡ number_at first x = get_or-set_other first e.from x b 0 ne in
          let more = one_more edges e in
          let old = p.first x x_in in
          let from : (edge_at (edges ++ e ∷ []) count).from ≡ e.from = ap (λ (d : Edge). d.from) (edge_last edges e) in
          let within : number_at first x ≤ count = elim (cases_lt count (number_at first x)) [
            | inl l ↦ absurd (ne (sym (old.own count (omega (arith, old.within))) ∙ from))
            | inr l ↦ l
          ] in
          subst (IsNewest edges count x) (sym same) (newest_less edges e count x _ (omega arith) (record {
            within = within;
            own = old.own;
            none = λ k le lt is. old.none k le (omega arith) is;
          })))
    ];
    next = λ k k_in.
        (let more = one_more edges e in
        let old = p.next k (omega arith) in
        let from : (edge_at (edges ++ e ∷ []) k).from ≡ (edge_at edges k).from = ap (λ (d : Edge). d.from) (edge_old edges e k k_in) in
        let same : number_at (next ++ b ∷ []) k ≡ number_at next k = get_or_append_left next (b ∷ []) 0 k (omega (arith, next_size)) in
        newest_less edges e k _ _ (omega arith) (subst (λ (x : ℕ). IsNewest (edges ++ e ∷ []) k x (number_at next k)) from (subst (IsNewest (edges ++ e ∷ []) k _) same old)));
  }

pub is_cut : (nodes : ℕ) (old new : Net) (e : Edge) (b : ℕ) → EdgesFit nodes old.edges → IsLinked nodes old → old.edges ≡ new.edges ++ e ∷ [] → (next : List ℕ) → old.next ≡ next ++ b ∷ []
    → new.next ≡ next → new.first ≡ set old.first e.from b → IsCut nodes old new
is_cut nodes old new e b fit p edges next next_is new_next first =
    let more = one_more new.edges e in
    let size = ap (length {A = Edge}) edges in
    let n = length new.edges in
    let last : edge_at old.edges n ≡ e = ap (λ (es : List Edge). edge_at es n) edges ∙ edge_last new.edges e in
    let from : e.from < nodes = subst (λ (d : Edge). d.from < nodes) last (fit.each n (omega arith)).from in
    let whole : IsLinked nodes (record { edges = new.edges ++ e ∷ []; next = next ++ b ∷ []; first = old.first }) =
    subst (λ (net : Net). IsLinked nodes net) (λ i. record { edges = edges i; next = next_is i; first = old.first }) p in
    record {
      linked = subst (λ (net : Net). IsLinked nodes net) (λ i. record { edges = new.edges; next = sym new_next i; first = sym first i }) (linked_less nodes new.edges e next b old.first from whole);
      last = e;
      edges = edges;
    }
