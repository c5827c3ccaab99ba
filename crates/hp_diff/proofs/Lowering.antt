-- A value of the draft that falls, and what stays true then.
use Rattle.std.proofs.Common.{◌≡◌, ◌≢◌, ◌⊎◌, ℕ, ◌+◌, ◌^◌, ◌<◌, ◌≤◌, List, length, set, refl, sym, ap, subst, ◌∙◌, inl, inr, arith, get_or-set_same, get_or-set_other}
use Rattle.std.specs.Prelude.{ℤ, pos, ◌+ℤ◌, ◌≤ℤ◌, ◌<ℤ◌}
use Rattle.std.proofs.lemmas.List.{length-set}
use Rattle.std.proofs.lemmas.Int.{ints}
use Rattle.std.proofs.lemmas.Bool.{cases_eq, cases_lt}
use Rattle.hp_diff.specs.declared.edges.Edge.{Edge}
use Rattle.hp_diff.specs.inner.Labels.{edge_at, EdgesFit}
use Rattle.hp_diff.specs.inner.Settled.{value_at}
use Rattle.hp_diff.specs.declared.repair.Work.{Work}
use Rattle.hp_diff.specs.inner.Net.{number_at, IsNewest}
use Rattle.hp_diff.specs.inner.Repair.{Agrees, AllHold, AreSame, AreWithin, Goes, Holds, HoldsOrWaits, InQueue, IsQueued, IsWork}

-- nothing changes where the edge holds
pub holds_already : (nodes : ℕ) (edges : List Edge) (w : Work) (head tail at : ℕ) → IsWork nodes w tail → Holds edges w.draft at → Goes nodes edges w w head tail tail (λ k. k ≡ at)
holds_already nodes edges w head tail at p h = record {
  further = omega arith;
  work = p;
  agree = λ values ag. ag;
  others = λ k k_in was. was;
  itself = λ k k_in is. inl (subst (Holds edges w.draft) (sym is) h);
}

module _ (nodes : ℕ) (edges : List Edge) (old q : Work) (head tail end at : ℕ) (v : ℤ) (fit : EdgesFit nodes edges) (at_in : at < length edges) (p : IsWork nodes old tail)
    (value : v ≡ value_at old.draft (edge_at edges at).from +ℤ (edge_at edges at).bound) (less : v <ℤ value_at old.draft (edge_at edges at).to) (low : pos 0 ≤ℤ (v +ℤ pos (10 ^ 37)))
    (s : IsQueued old q head tail end (edge_at edges at).to) where
  abbrev e : Edge
  e = edge_at edges at

  abbrev new : Work
  new = record { draft = set q.draft e.to v; queue = q.queue; place = q.place; parent = set q.parent e.to at }

  to_in : e.to < nodes
  to_in = (fit.each at at_in).to

  at_to : value_at new.draft e.to ≡ v
  at_to = get_or-set_same q.draft e.to v (pos 0) (let n = ap (length {A = ℤ}) s.draft in let c = p.draft.count in let h = to_in in omega arith)

  elsewhere : (x : ℕ) → x ≢ e.to → value_at new.draft x ≡ value_at old.draft x
  elsewhere x ne = get_or-set_other q.draft e.to x v (pos 0) ne ∙ ap (λ (xs : List ℤ). value_at xs x) s.draft

  grows : (from x : ℕ) → InQueue old.queue from tail x → InQueue new.queue from end x
  grows from x w = record { at = w.at; low = w.low; high = omega (arith, w.high, s.more); is = s.same w.at w.high ∙ w.is }

  within : AreWithin nodes new.draft
  within = record {
    count = length-set q.draft e.to v ∙ ap (length {A = ℤ}) s.draft ∙ p.draft.count;
    low = λ x x_in. elim (cases_eq x e.to) [
      | inl is ↦ (let v_is : value_at new.draft x ≡ v = ap (value_at new.draft) is ∙ at_to in omega (arith, ints))
      | inr ne ↦ (let v_is = elsewhere x ne in let was = p.draft.low x x_in in omega (arith, ints))
    ];
    high = λ x x_in. elim (cases_eq x e.to) [
      | inl is ↦ (let v_is : value_at new.draft x ≡ v = ap (value_at new.draft) is ∙ at_to in let was = p.draft.high e.to to_in in omega (arith, ints))
      | inr ne ↦ (let v_is = elsewhere x ne in let was = p.draft.high x x_in in omega (arith, ints))
    ];
  }

  pub lowers : Goes nodes edges old new head tail end (λ k. k ≡ at)
  lowers = record {
    further = s.more;
    work = record {
      draft = within;
      place = s.place ∙ p.place;
      parent = length-set q.parent e.to at ∙ ap (length {A = ℕ}) s.parent ∙ p.parent;
      room = s.room;
      queued = λ i i_in. elim (cases_lt i tail) [
        | inl l ↦ (let same = s.same i l in let was = p.queued i l in omega arith)
        | inr l ↦ (let same = s.fresh i l i_in in let h = to_in in omega arith)
      ];
    };
    agree = λ values ag x x_in. elim (cases_eq x e.to) [
      | inl is ↦ inr (record { at = s.inside.at; low = omega arith; high = s.inside.high; is = s.inside.is ∙ sym is })
      | inr ne ↦ elim (ag x x_in) [
        | inl same ↦ inl (elsewhere x ne ∙ same)
        | inr w ↦ inr (grows 0 x w)
      ]
    ];
    others = λ k k_in was. elim (cases_eq (edge_at edges k).from e.to) [
      | inl is ↦ inr (subst (InQueue new.queue head end) (sym is) s.inside)
      | inr ne ↦ elim was [
        | inr w ↦ inr (grows head _ w)
        | inl holds ↦ inl (let from = elsewhere _ ne in elim (cases_eq (edge_at edges k).to e.to) [
          | inl to_is ↦
              (let to : value_at new.draft (edge_at edges k).to ≡ v = ap (value_at new.draft) to_is ∙ at_to in
              let was_to : value_at old.draft (edge_at edges k).to ≡ value_at old.draft e.to = ap (value_at old.draft) to_is in
              omega (arith, ints))
          | inr to_ne ↦ (let to = elsewhere _ to_ne in omega (arith, ints))
        ])
      ]
    ];
    itself = λ k k_in is. subst (HoldsOrWaits edges new head end) (sym is) (elim (cases_eq e.from e.to) [
      | inl same ↦ inr (subst (InQueue new.queue head end) (sym same) s.inside)
      | inr ne ↦ inl (let from = elsewhere _ ne in let to = at_to in omega (arith, ints))
    ]);
  }

-- one thing after the other
pub goes_then : (nodes : ℕ) (edges : List Edge) (old mid new : Work) (head tail more end : ℕ) (P Q R : ℕ → Type 0) → Goes nodes edges old mid head tail more P
    → Goes nodes edges mid new head more end Q → ((k : ℕ) → k < length edges → R k → P k ⊎ Q k) → Goes nodes edges old new head tail end R
goes_then nodes edges old mid new head tail more end P Q R a b split = record {
  further = (let x = a.further in let y = b.further in omega arith);
  work = b.work;
  agree = λ values ag. b.agree values (a.agree values ag);
  others = λ k k_in was. b.others k k_in (a.others k k_in was);
  itself = λ k k_in r. elim (split k k_in r) [
    | inl x ↦ b.others k k_in (a.itself k k_in x)
    | inr y ↦ b.itself k k_in y
  ];
}

-- ---- the edges of a node
pub record IsScan (nodes : ℕ) (edges : List Edge) (old now : Work) (head tail end node after : ℕ) : Type 0 where
  pub goes : Goes nodes edges old now head tail end (λ k. ((edge_at edges k).from ≡ node) × (after ≤ k))
  pub within : after ≤ length edges
  pub own : (k : ℕ) → after ≡ k + 1 → (edge_at edges k).from ≡ node

pub starts_scan : (nodes : ℕ) (edges : List Edge) (w : Work) (head tail node after : ℕ) → IsWork nodes w tail → IsNewest edges (length edges) node after → IsScan nodes edges w w head tail tail node after
starts_scan nodes edges w head tail node after p n = record {
  goes = record { further = omega arith; work = p; agree = λ values ag. ag; others = λ k k_in was. was; itself = λ k k_in is. absurd (n.none k is.1 k_in is.0) };
  within = n.within;
  own = n.own;
}

pub next_scan : (nodes : ℕ) (edges : List Edge) (old mid new : Work) (head tail more end node at after : ℕ) → IsScan nodes edges old mid head tail more node (at + 1)
    → Goes nodes edges mid new head more end (λ k. k ≡ at) → IsNewest edges at (edge_at edges at).from after → IsScan nodes edges old new head tail end node after
next_scan nodes edges old mid new head tail more end node at after p g n =
    let from : (edge_at edges at).from ≡ node = p.own at refl in
    record {
      goes = goes_then nodes edges old mid new head tail more end _ _ _ p.goes g (λ k k_in is. elim (cases_lt k at) [
        | inl l ↦ absurd (n.none k is.1 l (is.0 ∙ sym from))
        | inr l ↦ elim (cases_eq k at) [
          | inl same ↦ inr same
          | inr ne ↦ inl (is.0, omega arith)
        ]
      ]);
      within = (let a = n.within in let b = p.within in omega arith);
      own = λ k is. n.own k is ∙ from;
    }

pub end_scan : (nodes : ℕ) (edges : List Edge) (old now : Work) (head tail end node : ℕ) → IsScan nodes edges old now head tail end node 0
    → Goes nodes edges old now head tail end (λ k. (edge_at edges k).from ≡ node)
end_scan nodes edges old now head tail end node p = record {
  further = p.goes.further;
  work = p.goes.work;
  agree = p.goes.agree;
  others = p.goes.others;
  itself = λ k k_in is. p.goes.itself k k_in (is, omega arith);
}

-- ---- the whole repair
pub record IsRepairing (nodes : ℕ) (edges : List Edge) (values : List ℤ) (w : Work) (head tail : ℕ) : Type 0 where
  pub ahead : head ≤ tail
  pub work : IsWork nodes w tail
  pub agree : Agrees nodes values w tail
  pub all : (k : ℕ) → k < length edges → HoldsOrWaits edges w head tail k

pub starts_repair : (nodes : ℕ) (edges : List Edge) (values : List ℤ) (old new : Work) (last more : ℕ) → length edges ≡ last + 1 → AreSame nodes old.draft values
    → ((k : ℕ) → k < last → Holds edges old.draft k) → Goes nodes edges old new 0 0 more (λ k. k ≡ last) → IsRepairing nodes edges values new 0 more
starts_repair nodes edges values old new last more size same holds g = record {
  ahead = omega arith;
  work = g.work;
  agree = g.agree values (λ x x_in. inl (same x x_in));
  all = λ k k_in. elim (cases_lt k last) [
    | inl l ↦ g.others k k_in (inl (holds k l))
    | inr l ↦ g.itself k k_in (omega arith)
  ];
}

pub next_repair : (nodes : ℕ) (edges : List Edge) (values : List ℤ) (old new : Work) (head tail more : ℕ) → head ≢ tail → IsRepairing nodes edges values old head tail
    → Goes nodes edges old new (head + 1) tail more (λ k. (edge_at edges k).from ≡ number_at old.queue head) → IsRepairing nodes edges values new (head + 1) more
next_repair nodes edges values old new head tail more ne p g = record {
  ahead = (let a = p.ahead in let b = g.further in omega arith);
  work = g.work;
  agree = g.agree values p.agree;
  all = λ k k_in. elim (p.all k k_in) [
    | inl holds ↦ g.others k k_in (inl holds)
    | inr w ↦ elim (cases_eq w.at head) [
      | inl is ↦ g.itself k k_in (sym w.is ∙ ap (number_at old.queue) is)
      | inr other ↦ g.others k k_in (inr (record { at = w.at; low = (let l = w.low in omega arith); high = w.high; is = w.is }))
    ]
  ];
}

pub end_repair : (nodes : ℕ) (edges : List Edge) (values : List ℤ) (w : Work) (head tail : ℕ) → head ≡ tail → IsRepairing nodes edges values w head tail → AllHold edges w.draft
end_repair nodes edges values w head tail is p k k_in = elim (p.all k k_in) [
  | inl holds ↦ holds
  | inr q ↦ absurd (let l = q.low in let h = q.high in omega arith)
]
