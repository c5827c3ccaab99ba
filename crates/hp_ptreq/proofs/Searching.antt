-- The search for a way: what it meets, how it spreads, and the way back.
use Rattle.std.proofs.Common.{◌≡◌, ℕ, ◌+◌, ◌-◌, ◌<◌, ◌≤◌, min, List, [], ◌∷◌, ◌++◌, length, get_or, set, refl, sym, ap, subst, ◌∙◌, inl, inr, arith, get_or-set_same, get_or-set_other, below_more}
use Rattle.std.specs.Prelude.{replicate}
use Rattle.std.proofs.lemmas.Bool.{cases_eq, cases_lt}
use Rattle.std.proofs.lemmas.List.{get_or-replicate, get_or_append_left, length-replicate, length-set, length_push}
use Rattle.std.proofs.lemmas.List.Sums.{sum_by-le, sum_by-set}
use Rattle.std.proofs.Math.Seq.{get_or-append_seam}
use Rattle.hp_ptreq.specs.declared.classes.Join.{Join}
use Rattle.hp_ptreq.specs.declared.ways.Met.{Met}
use Rattle.hp_ptreq.specs.declared.ways.Search.{Search}
use Rattle.hp_ptreq.specs.inner.Classes.{AreJoined, join_at}
use Rattle.hp_ptreq.specs.inner.Ways.{AreMet, IsHop, IsMet, MeetsOne, Spreads, Steps, Way, mark_at, met_at, seen, seen_count}

-- ---- the beginning
pub begun : (joins : List Join) (nodes start : ℕ) (m : Met) → m.node ≡ start → start < nodes → AreMet joins nodes start (record { marks = set (replicate nodes 0) start 1; met = m ∷ [] })
begun joins nodes start m first h =
    let zeros : List ℕ = replicate nodes 0 in
    let size : length zeros ≡ nodes = length-replicate nodes 0 in
    let here : get_or (set zeros start 1) start 0 ≡ 1 = get_or-set_same zeros start 1 0 (omega arith) in
    record {
      count = length-set zeros start 1 ∙ size;
      some = omega arith;
      first = first;
      each = λ i some within. absurd (omega arith);
      marked = λ x p x_in e. elim (cases_eq x start) [
        | inl same ↦
            (let is : get_or (set zeros start 1) x 0 ≡ 1 = ap (λ (y : ℕ). get_or (set zeros start 1) y 0) same ∙ here in
            let p_is : p ≡ 0 = omega arith in (omega arith, ap (λ (i : ℕ). (met_at (m ∷ []) i).node) p_is ∙ first ∙ sym same))
        | inr ne ↦ absurd (let other : get_or (set zeros start 1) x 0 ≡ 0 = get_or-set_other zeros start x 1 0 ne ∙ get_or-replicate nodes x 0 0 x_in in omega arith)
      ];
      begun = omega arith;
    }

-- ---- one more meeting
module _ (joins : List Join) (nodes start : ℕ) (old : Search) (m : Met) (a : AreMet joins nodes start old) where
  abbrev met : List Met
  met = old.met ++ m ∷ []

  abbrev marks : List ℕ
  marks = set old.marks m.node (length met)

  before : (i : ℕ) → i < length old.met → met_at met i ≡ met_at old.met i
  before i h = get_or_append_left old.met (m ∷ []) _ i h

  last : met_at met (length old.met) ≡ m
  last = get_or-append_seam old.met m [] _

  met_before : (i : ℕ) → i < length old.met → IsMet joins old.met i → IsMet joins met i
  met_before i h p =
      let e = met_at old.met i in
      let from : met_at met e.from ≡ met_at old.met e.from = before e.from (let l = p.earlier in omega arith) in
      let hop : IsHop joins e.lit e.node (met_at met e.from).node = subst (λ (d : Met). IsHop joins e.lit e.node d.node) (sym from) p.hop in
      record {
        earlier = subst (λ (d : Met). d.from < i) (sym (before i h)) p.earlier;
        hop = subst (λ (d : Met). IsHop joins d.lit d.node (met_at met d.from).node) (sym (before i h)) hop;
      }

  met_last : m.from < length old.met → IsHop joins m.lit m.node (met_at old.met m.from).node → IsMet joins met (length old.met)
  met_last h hop =
      let at : IsHop joins m.lit m.node (met_at met m.from).node = subst (λ (d : Met). IsHop joins m.lit m.node d.node) (sym (before m.from h)) hop in
      record {
        earlier = subst (λ (d : Met). d.from < length old.met) (sym last) h;
        hop = subst (λ (d : Met). IsHop joins d.lit d.node (met_at met d.from).node) (sym last) at;
      }

  pub meets_one : m.node < nodes → mark_at old m.node ≡ 0 → m.from < length old.met → IsHop joins m.lit m.node (met_at old.met m.from).node
      → MeetsOne joins nodes start old (record { marks = marks; met = met })
  meets_one node_in new from_in hop =
      let size = length_push old.met m in
      let h : m.node < length old.marks = (let s = a.count in omega arith) in
      let here : get_or marks m.node 0 ≡ length met = get_or-set_same old.marks m.node (length met) 0 h in
      record {
        met = record {
          count = length-set old.marks m.node (length met) ∙ a.count;
          some = omega arith;
          first = ap (λ (d : Met). d.node) (before 0 a.some) ∙ a.first;
          each = λ i some within. elim (cases_lt i (length old.met)) [
            | inl less ↦ met_before i less (a.each i some less)
            | inr more ↦ (let is : length old.met ≡ i = omega arith in subst (IsMet joins met) is (met_last from_in hop))
          ];
          marked = λ x p x_in e. elim (cases_eq x m.node) [
            | inl same ↦
                (let at : get_or marks x 0 ≡ length met = ap (λ (y : ℕ). get_or marks y 0) same ∙ here in
                let p_is : p ≡ length old.met = omega arith in
                (omega arith, ap (λ (i : ℕ). (met_at met i).node) p_is ∙ ap (λ (d : Met). d.node) last ∙ sym same))
            | inr ne ↦
                (let p = a.marked x p x_in (sym (get_or-set_other old.marks m.node x (length met) 0 ne) ∙ e) in
                (omega (arith, p.0), ap (λ (d : Met). d.node) (before _ p.0) ∙ p.1))
          ];
          begun = elim (cases_eq start m.node) [
            | inl same ↦ (let at : get_or marks start 0 ≡ length met = ap (λ (y : ℕ). get_or marks y 0) same ∙ here in omega arith)
            | inr ne ↦ (let at : get_or marks start 0 ≡ mark_at old start = get_or-set_other old.marks m.node start (length met) 0 ne in let b = a.begun in omega arith)
          ];
        };
        more = (let sum = sum_by-set (λ n. min n 1) old.marks m.node (length met) 0 h in omega arith);
      }

-- the join leads to a node that was met, whichever of its nodes that is
pub hop_right : (joins : List Join) (nodes start : ℕ) (s : Search) (at : ℕ) → AreMet joins nodes start s → at < length joins → (join_at joins at).right < nodes
    → 0 < mark_at s (join_at joins at).right
    → (mark_at s (join_at joins at).right - 1 < length s.met) × IsHop joins (join_at joins at).lit (join_at joins at).left (met_at s.met (mark_at s (join_at joins at).right - 1)).node
hop_right joins nodes start s at a h node_in some =
    let j = join_at joins at in
    let p = a.marked j.right (mark_at s j.right - 1) node_in (omega arith) in
    (p.0, record { number = at; within = h; is = refl; ends = inl (refl, sym p.1) })

pub hop_left : (joins : List Join) (nodes start : ℕ) (s : Search) (at : ℕ) → AreMet joins nodes start s → at < length joins → (join_at joins at).left < nodes
    → 0 < mark_at s (join_at joins at).left
    → (mark_at s (join_at joins at).left - 1 < length s.met) × IsHop joins (join_at joins at).lit (join_at joins at).right (met_at s.met (mark_at s (join_at joins at).left - 1)).node
hop_left joins nodes start s at a h node_in some =
    let j = join_at joins at in
    let p = a.marked j.left (mark_at s j.left - 1) node_in (omega arith) in
    (p.0, record { number = at; within = h; is = refl; ends = inr (refl, sym p.1) })

-- ---- spreading
pub no_spread : (joins : List Join) (s : Search) → Spreads joins s s 0
no_spread joins s = inr (refl, λ k h. absurd (omega arith))

pub next_spread : (joins : List Join) (first old new : Search) (at : ℕ) → Spreads joins first old at → Steps joins old new at → Spreads joins first new (at + 1)
next_spread joins first old new at spreads steps = elim spreads [
  | inl more ↦ elim steps [
    | inl again ↦ inl (omega arith)
    | inr still ↦ inl (subst (λ (s : Search). seen_count first < seen_count s) (sym still.0) more)
  ]
  | inr quiet ↦ elim steps [
    | inl more ↦ inl (subst (λ (s : Search). seen_count s < seen_count new) quiet.0 more)
    | inr still ↦ inr (
      still.0 ∙ quiet.0,
      below_more (λ k. seen new (join_at joins k).left ≡ seen new (join_at joins k).right) at
          (λ k h. subst (λ (s : Search). seen s (join_at joins k).left ≡ seen s (join_at joins k).right) (sym still.0) (quiet.1 k h)) still.1,
    )
  ]
]

seen_few : (joins : List Join) (nodes start : ℕ) (s : Search) → AreMet joins nodes start s → seen_count s ≤ nodes
seen_few joins nodes start s a = (let most = sum_by-le (λ m. min m 1) 1 s.marks (λ k d h. omega arith) in let size = a.count in omega arith)

-- while the end of the way wasn't met, more nodes are met
pub spreads_on : (joins : List Join) (nodes start left : ℕ) (old new : Search) → AreMet joins nodes start old → AreMet joins nodes start new → Spreads joins old new (length joins)
    → mark_at old left ≡ 0 → AreJoined joins left start → nodes - seen_count new < nodes - seen_count old
spreads_on joins nodes start left old new a b spreads unmet joined =
    let few = seen_few joins nodes start new b in
    elim spreads [
      | inl more ↦ omega arith
      | inr quiet ↦ absurd (
          let alike : seen new left ≡ seen new start = joined.by (seen new) quiet.1 in
          let still : seen old left ≡ seen old start = subst (λ (s : Search). seen s left ≡ seen s start) quiet.0 alike in
          let b = a.begun in omega arith)
    ]

-- ---- the way back
way_more : (joins : List Join) (ns : List ℕ) (a b c n : ℕ) → Way joins a ns b → IsHop joins n b c → Way joins a (ns ++ n ∷ []) c
way_more joins [] a b c n w h = (c, subst (λ x. IsHop joins n x c) (sym w) h, refl)
way_more joins (m ∷ ns) a b c n w h = (w.0, w.1, way_more joins ns w.0 b c n w.2 h)

pub record IsBack (joins : List Join) (s : Search) (number current : ℕ) (way : List ℕ) : Type 0 where
  pub within : current < length s.met
  pub so_far : Way joins (met_at s.met number).node way (met_at s.met current).node

pub start_back : (joins : List Join) (s : Search) (number : ℕ) → number < length s.met → IsBack joins s number number []
start_back joins s number h = record { within = h; so_far = refl }

pub next_back : (joins : List Join) (nodes start : ℕ) (s : Search) (number current : ℕ) (way : List ℕ) → AreMet joins nodes start s → IsBack joins s number current way → 0 < current
    → ((met_at s.met current).from < current) × IsBack joins s number (met_at s.met current).from (way ++ (met_at s.met current).lit ∷ [])
next_back joins nodes start s number current way a p some =
    let m = a.each current some p.within in (
      m.earlier,
      record {
        within = (let e = m.earlier in let w = p.within in omega arith);
        so_far = way_more joins way _ _ _ _ p.so_far m.hop;
      },
    )

pub end_back : (joins : List Join) (nodes start : ℕ) (s : Search) (number current : ℕ) (way : List ℕ) → AreMet joins nodes start s → IsBack joins s number current way → current ≡ 0
    → Way joins (met_at s.met number).node way start
end_back joins nodes start s number current way a p end =
    subst (Way joins (met_at s.met number).node way) (ap (λ (i : ℕ). (met_at s.met i).node) end ∙ a.first) p.so_far
