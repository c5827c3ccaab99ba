-- Labels of nodes as values of names: they make the rows true.
use Rattle.std.proofs.Common.{◌≡◌, ℕ, ◌+◌, ◌≤◌, List, length, take, get_or, refl, sym, ap, subst, ◌∙◌, arith, pos, Bool, true, false, eq-eqb, Some}
use Rattle.std.specs.Prelude.{slice_get}
use Rattle.std.proofs.lemmas.Int.{ints}
use Rattle.std.proofs.lemmas.List.{take_more, take_all}
use Rattle.std.proofs.lemmas.List.Elements.{All-push}
use Rattle.std.proofs.lemmas.Option.{slice_get_within, get_or_from_slice_get}
use Rattle.std.specs.List.{All, Contains}
use Rattle.std.specs.List.Sorted.{IsStrictlyIncreasing}
use Rattle.hp_math.specs.Rational.{ratio, whole}
use Rattle.hp_math.proofs.Rational.{ratio-≤, ratio-inj, ratio-kept}
use Rattle.hp_tree.specs.declared.problem.Sort.TheVariants as sort
use Rattle.hp_lit.specs.declared.literal.PtrLit.{PtrLit}
use Rattle.hp_lit.specs.declared.valuation.NameValue.{NameValue}
use Rattle.hp_lit.specs.Sorts.{IsOfSort}
use Rattle.hp_lit.specs.Truth.{Values, name_value, optional_value, PtrIsTrue}
use Rattle.hp_nodes.specs.Nodes.{AreNamedValues, AreNames, name_at}
use Rattle.hp_nodes.proofs.Values.{same_length, value_of_node}
use Rattle.hp_ptreq.specs.Rows.{ArePointers, mentioned}
use Rattle.hp_ptreq.specs.declared.classes.Classes.{Classes}
use Rattle.hp_ptreq.specs.inner.Built.{AreClasses, IsApart, IsKept}
use Rattle.hp_ptreq.specs.inner.Classes.{AreLabels, label_at}
use Rattle.hp_ptreq.specs.inner.Nodes.{AtNodes, label_value}
use Rattle.hp_ptreq.proofs.Labels.{labels_level}

whole_same : (a b : ℕ) → whole (pos a) ≡ whole (pos b) → a ≡ b
unfolding whole
whole_same a b h = (let e = ratio-inj (pos a) (pos b) 1 (omega arith) h in cc)

natural : (n : ℕ) → IsOfSort sort.Ptr (whole (pos n))
unfolding whole
natural n =
    let kept = ratio-kept (pos n) 1 (omega arith) (λ e above below h. absurd (omega arith)) in
    (eq-eqb (ratio (pos n) 1).den 1 kept.1, ratio-≤ (pos 0) (pos n) 1 (omega arith) (omega (arith, ints)))

-- one more row
pub next_apart : (names : List ℕ) (rows : List PtrLit) (labels : List ℕ) (at : ℕ) (row : PtrLit) → slice_get rows at ≡ Some row → All (IsApart names labels) (take at rows)
    → IsApart names labels row → All (IsApart names labels) (take (at + 1) rows)
next_apart names rows labels at row is all one =
    subst (All (IsApart names labels)) (sym (take_more rows at row (slice_get_within rows at row is)))
    (All-push (IsApart names labels) (take at rows) (get_or rows at row) all (subst (IsApart names labels) (sym (get_or_from_slice_get rows at row row is)) one))

pub next_together : (names : List ℕ) (rows : List PtrLit) (labels : List ℕ) (at : ℕ) (row : PtrLit) → slice_get rows at ≡ Some row → row.same ≡ true → All (IsApart names labels) (take at rows)
    → All (IsApart names labels) (take (at + 1) rows)
next_together names rows labels at row is same all = next_apart names rows labels at row is all (λ e. absurd (cc))

module _ (names labels : List ℕ) (named : List NameValue) (n : AreNamedValues names (label_value labels) named) (null : label_at labels 0 ≡ 0) where
  module _ (v : Values) (all : All (λ nv. name_value v nv.name.0 ≡ nv.value) named) (d : NameValue) where
    -- what a valuation that agrees gives the name of a node
    node_value : (x : ℕ) → x ≤ length names → optional_value v (name_at names x) ≡ whole (pos (label_at labels x))
    node_value x h = value_of_node names (label_value labels) named n (ap (λ m. whole (pos m)) (sym null)) v all d x h

    side_value : (row : PtrLit) (Stand : ℕ → ℕ → Type 0) (p : AtNodes names row Stand)
        → (optional_value v row.left ≡ whole (pos (label_at labels p.left))) × (optional_value v row.right ≡ whole (pos (label_at labels p.right)))
    side_value row Stand p = (
      ap (optional_value v) (sym p.nodes.left_is) ∙ node_value p.left p.nodes.left_in,
      ap (optional_value v) (sym p.nodes.right_is) ∙ node_value p.right p.nodes.right_in,
    )

    row_true : (classes : Classes) (rows : List PtrLit) (row : PtrLit) → AreClasses names rows (length rows) classes → AreLabels (length names + 1) classes.parents labels
        → IsKept names classes.parents row → IsApart names labels row → (same : Bool) → row.same ≡ same → PtrIsTrue v row
    row_true classes rows row c a kept apart true same =
        let p = kept same in
        let sides = side_value row _ p in
        let label = p.stand.by (label_at labels) (labels_level (length names + 1) classes.parents labels c.trees a) in
        (λ e. sides.0 ∙ ap (λ m. whole (pos m)) label ∙ sym sides.1, λ e. same)
    row_true classes rows row c a kept apart false differs =
        let p = apart differs in
        let sides = side_value row _ p in
        (λ e. absurd (cc), λ e. absurd (p.stand (whole_same _ _ (sym sides.0 ∙ e ∙ sides.1))))

pub are_pointers : (rows : List PtrLit) (names labels : List ℕ) (classes : Classes) (named : List NameValue) → AreNames (mentioned rows) names → AreClasses names rows (length rows) classes
    → AreLabels (length names + 1) classes.parents labels → All (IsApart names labels) rows → AreNamedValues names (label_value labels) named → ArePointers rows named
are_pointers rows names labels classes named ns c a apart n =
    let kept = subst (All (IsKept names classes.parents)) (take_all (length rows) rows (omega arith)) c.kept in
    record {
      named = subst (λ xs. All (Contains xs) (mentioned rows)) (sym n.same) ns.all;
      only = subst (λ xs. All (Contains (mentioned rows)) xs) (sym n.same) ns.only;
      rising = subst IsStrictlyIncreasing (sym n.same) ns.rising;
      sort = λ k d h. subst (IsOfSort sort.Ptr) (sym (n.value k d (omega (arith, same_length names (label_value labels) named n)))) (natural _);
      keeps = λ v all k row h.
          (let one = get_or rows k row in
          row_true names labels named n a.null v all (record { name = record { 0 = 0 }; value = whole (pos 0) }) classes rows one c a (kept k row h) (apart k row h) one.same refl);
    }
