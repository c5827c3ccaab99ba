-- Values of nodes as values of names: they make the rows true of which the edges are.
use Rattle.std.proofs.Common.{◌≡◌, ℕ, ◌+◌, ◌^◌, ◌<◌, ◌≤◌, inl, inr, List, length, get_or, refl, sym, ap, subst, ◌∙◌, arith, ℤ, pos, neg_ℤ, ◌+ℤ◌, ◌-ℤ◌, ◌≤ℤ◌, Bool, true, false, eq-eqb}
use Rattle.std.proofs.lemmas.Int.{ints}
use Rattle.std.proofs.lemmas.List.{get_or_default}
use Rattle.std.specs.List.{All, Contains}
use Rattle.std.specs.List.Sorted.{IsStrictlyIncreasing}
use Rattle.hp_math.specs.Rational.{ℚ, ratio, whole, ◌-ℚ◌, ◌≤ℚ◌, ◌+ℚ◌}
use Rattle.hp_math.proofs.Rational.{ratio-neg, ratio-+, ratio-≤, ratio-inj, ratio-kept}
use Rattle.hp_lit.specs.declared.literal.IdxLit.{IdxLit}
use Rattle.hp_lit.specs.declared.valuation.NameValue.{NameValue}
use Rattle.hp_lit.specs.Truth.{Values, name_value, optional_value, IdxIsTrue}
use Rattle.hp_nodes.specs.Nodes.{AreNamedValues, AreNames, name_at}
use Rattle.hp_nodes.proofs.Mentions.{names_few}
use Rattle.hp_nodes.proofs.Values.{same_length, value_of_node}
use Rattle.hp_diff.specs.declared.edges.Edge.{Edge}
use Rattle.hp_diff.specs.inner.Labels.{edge_at}
use Rattle.hp_diff.specs.inner.Settled.{value_at, AreValues}
use Rattle.hp_diff.specs.Rows.{IsPoint, IsSmallWhole, mentioned}
use Rattle.hp_diff.specs.inner.Edges.{AreEdges, IsCovered, IsOver, offset_at}

pub whole_difference : (a b : ℤ) → whole a -ℚ whole b ≡ whole (a -ℤ b)
unfolding whole
whole_difference a b = ap (λ q. ratio a 1 +ℚ q) (ratio-neg b 1 (omega arith)) ∙ ratio-+ a (neg_ℤ b) 1 (omega arith)

pub whole_le : (a b : ℤ) → a ≤ℤ b → whole a ≤ℚ whole b
unfolding whole
whole_le a b h = ratio-≤ a b 1 (omega arith) h

whole_same : (a b : ℤ) → whole a ≡ whole b → a ≡ b
unfolding whole
whole_same a b h = ratio-inj a b 1 (omega arith) h

small_whole : (n : ℤ) → pos 0 ≤ℤ (n +ℤ pos (10 ^ 37)) → n ≤ℤ pos (10 ^ 37) → IsSmallWhole (whole n)
unfolding whole
small_whole n low high =
    let kept = ratio-kept n 1 (omega arith) (λ e above below h. absurd (omega arith)) in
    record {
      whole = eq-eqb (ratio n 1).den 1 kept.1;
      low = subst (λ m. pos 0 ≤ℤ (m +ℤ pos (10 ^ 37))) (sym kept.0) low;
      high = subst (λ m. m ≤ℤ pos (10 ^ 37)) (sym kept.0) high;
    }

module _ (names : List ℕ) (values : List ℤ) (named : List NameValue) (n : AreNamedValues names (offset_at values) named) where
  abbrev base : ℤ
  base = value_at values 0

  -- what a valuation that agrees gives the name of a node
  node_value : (v : Values) → All (λ nv. name_value v nv.name.0 ≡ nv.value) named → (d : NameValue) (x : ℕ) → x ≤ length names
      → optional_value v (name_at names x) ≡ whole (value_at values x -ℤ base)
  node_value v all d x h = value_of_node names (offset_at values) named n (ap whole (omega (arith, ints))) v all d x h

  module _ (edges : List Edge) (a : AreValues (length names + 1) edges values) (v : Values) (all : All (λ nv. name_value v nv.name.0 ≡ nv.value) named) (d : NameValue) where
    abbrev difference : IdxLit → ℚ
    difference row = optional_value v row.left -ℚ optional_value v row.right

    -- the difference of a row's names is that of its nodes
    over_value : (e : Edge) (row : IdxLit) → IsOver names e row → difference row ≡ whole (value_at values e.to -ℤ value_at values e.from)
    over_value e row o =
        (λ i. optional_value v (sym o.left i) -ℚ optional_value v (sym o.right i))
        ∙ (λ i. node_value v all d e.to o.to i -ℚ node_value v all d e.from o.from i)
        ∙ whole_difference (value_at values e.to -ℤ base) (value_at values e.from -ℤ base)
        ∙ ap whole (omega (arith, ints))

    same_value : (x y : ℕ) → x ≤ length names → y ≤ length names → name_at names x ≡ name_at names y → value_at values x ≡ value_at values y
    same_value x y h g e =
        let same = whole_same (value_at values x -ℤ base) (value_at values y -ℤ base) (sym (node_value v all d x h) ∙ ap (optional_value v) e ∙ node_value v all d y g) in
        omega (arith, ints)

    kept_edge : (e : Edge) → Contains edges e → value_at values e.to ≤ℤ (value_at values e.from +ℤ e.bound)
    kept_edge e c =
        let k = c.0 in
        let is : edge_at edges k ≡ e = get_or_default edges k _ e c.1 ∙ c.2 in
        subst (λ (f : Edge). value_at values f.to ≤ℤ (value_at values f.from +ℤ f.bound)) is (a.keep k c.1)

    row_true : (row : IdxLit) → IsCovered names edges row → (exact : Bool) → row.exact ≡ exact → IdxIsTrue v row
    row_true row c false no_e =
        let h = c.forward in
        let kept = kept_edge h.0 h.1 in
        let bound = h.2.bound in
        inl (no_e, subst (λ q. q ≤ℚ whole row.bound) (sym (over_value h.0 row h.2)) (whole_le _ _ (omega (arith, ints))))
    row_true row c true yes_e =
        let h = c.forward in
        let g = c.backward yes_e in
        let kept = kept_edge h.0 h.1 in
        let bound = h.2.bound in
        let back = kept_edge g.0 g.1 in
        let back_bound = g.2.bound in
        let left = same_value h.0.to g.0.from h.2.to g.2.from (h.2.left ∙ sym g.2.right) in
        let right = same_value h.0.from g.0.to h.2.from g.2.to (h.2.right ∙ sym g.2.left) in
        inr (over_value h.0 row h.2 ∙ ap whole (omega (arith, ints)))

    pub all_true : (rows : List IdxLit) → AreEdges names rows edges → All (IdxIsTrue v) rows
    all_true rows e k row h = row_true (get_or rows k row) (e.cover k row h) (get_or rows k row).exact refl

pub is_point : (rows : List IdxLit) (names : List ℕ) (edges : List Edge) (values : List ℤ) (named : List NameValue) → length rows ≤ 100000 → AreNames (mentioned rows) names
    → AreEdges names rows edges → AreValues (length names + 1) edges values → AreNamedValues names (offset_at values) named → IsPoint rows named
is_point rows names edges values named few ns es vs n = record {
  named = subst (λ xs. All (Contains xs) (mentioned rows)) (sym n.same) ns.all;
  only = subst (λ xs. All (Contains (mentioned rows)) xs) (sym n.same) ns.only;
  rising = subst IsStrictlyIncreasing (sym n.same) ns.rising;
  small = λ k d h.
      (let k_in : k < length names = omega (arith, same_length names (offset_at values) named n) in
      let low = vs.low (k + 1) (omega arith) in
      let high = vs.high (k + 1) (omega arith) in
      let low_base = vs.low 0 (omega arith) in
      let high_base = vs.high 0 (omega arith) in
      let count = names_few IdxLit (λ row. row.left) (λ row. row.right) rows names ns in
      subst IsSmallWhole (sym (n.value k d k_in)) (small_whole _ (omega (arith, ints)) (omega (arith, ints))));
  keeps = λ v all. all_true names values named n edges vs v all (record { name = record { 0 = 0 }; value = whole (pos 0) }) rows es;
}
