-- Labels of nodes, one after the other.
use Rattle.std.proofs.Common.{◌≡◌, ℕ, ◌+◌, ◌<◌, List, [], ◌∷◌, ◌++◌, refl, sym, ap, subst, ◌∙◌, inl, inr, arith}
use Rattle.std.proofs.lemmas.Bool.{cases_lt}
use Rattle.std.proofs.lemmas.List.{get_or_append_left, length_push}
use Rattle.std.proofs.Math.Seq.{get_or-append_seam}
use Rattle.hp_ptreq.specs.declared.classes.Classes.{Classes}
use Rattle.hp_ptreq.specs.inner.Classes.{AreFrom, AreJoined, AreLabels, AreTogether, AreTrees, IsLevel, label_at, parent_at}

pub first_labels : (parents : List ℕ) → AreLabels 0 parents []
first_labels parents = record {
  count = refl;
  level = λ x x_in. absurd (omega arith);
  own = λ x x_in. absurd (omega arith);
  null = refl;
}

module _ (nodes node label : ℕ) (parents labels : List ℕ) (t : AreTrees nodes parents) (node_in : node < nodes) (old : AreLabels node parents labels)
    (root : parent_at parents node ≡ node → label ≡ node) (child : parent_at parents node < node → label ≡ label_at labels (parent_at parents node)) where
  abbrev new : List ℕ
  new = labels ++ label ∷ []

  before : (x : ℕ) → x < node → label_at new x ≡ label_at labels x
  before x h = get_or_append_left labels (label ∷ []) 0 x (let s = old.count in omega arith)

  last : (x : ℕ) → x ≡ node → label_at new x ≡ label
  last x e = ap (label_at new) (e ∙ sym old.count) ∙ get_or-append_seam labels label [] 0

  level_last : label_at new (parent_at parents node) ≡ label
  level_last = elim (cases_lt (parent_at parents node) node) [
    | inl less ↦ before (parent_at parents node) less ∙ sym (child less)
    | inr more ↦ last (parent_at parents node) (let l = t.lesser node node_in in omega arith)
  ]

  own_last : AreTogether parents node label
  own_last = elim (cases_lt (parent_at parents node) node) [
    | inl less ↦ record {
      by = λ f level. sym (level node (let s = t.count in omega arith)) ∙ (old.own (parent_at parents node) less).by f level ∙ ap f (sym (child less));
    }
    | inr more ↦ (let same : parent_at parents node ≡ node = (let l = t.lesser node node_in in omega arith) in record { by = λ f level. ap f (sym (root same)) })
  ]

  null_more : label_at new 0 ≡ 0
  null_more = elim (cases_lt 0 node) [
    | inl some ↦ before 0 some ∙ old.null
    | inr none ↦
        (let is : node ≡ 0 = omega arith in
        let l = t.lesser node node_in in
        let e = root (omega arith) in last 0 (sym is) ∙ e ∙ is)
  ]

  pub next_labels : AreLabels (node + 1) parents (labels ++ label ∷ [])
  next_labels = record {
    count = length_push labels label ∙ ap (λ n. n + 1) old.count;
    level = λ x x_in. elim (cases_lt x node) [
      | inl less ↦ before (parent_at parents x) (let l = t.lesser x (omega arith) in omega arith) ∙ old.level x less ∙ sym (before x less)
      | inr more ↦ (let is : x ≡ node = omega arith in ap (λ y. label_at new (parent_at parents y)) is ∙ level_last ∙ sym (last x is))
    ];
    own = λ x x_in. elim (cases_lt x node) [
      | inl less ↦ subst (AreTogether parents x) (sym (before x less)) (old.own x less)
      | inr more ↦ (let is : x ≡ node = omega arith in subst (AreTogether parents x) (sym (last x is)) (subst (λ y. AreTogether parents y label) (sym is) own_last))
    ];
    null = null_more;
  }

-- joins lead between nodes of one label
pub joined_by_label : (nodes : ℕ) (classes : Classes) (labels : List ℕ) (x y : ℕ) → AreLabels nodes classes.parents labels → AreFrom classes.joins classes.parents → x < nodes → y < nodes
    → label_at labels x ≡ label_at labels y → AreJoined classes.joins x y
joined_by_label nodes classes labels x y a from x_in y_in same = record {
  by = λ f agrees. (a.own x x_in).by f (from f agrees) ∙ ap f same ∙ sym ((a.own y y_in).by f (from f agrees));
}

-- labels are the same throughout each tree
pub labels_level : (nodes : ℕ) (parents labels : List ℕ) → AreTrees nodes parents → AreLabels nodes parents labels → IsLevel parents (label_at labels)
labels_level nodes parents labels t a = λ x x_in. a.level x (let s = t.count in omega arith)
