-- Values of nodes as values of names.
use Rattle.std.proofs.Common.{◌≡◌, ℕ, zero, suc, ◌+◌, ◌<◌, ◌≤◌, inl, inr, List, [], ◌∷◌, ◌++◌, length, take, get_or, sym, ap, ◌∙◌, arith, add-one, pos}
use Rattle.std.proofs.lemmas.List.{get_or-map, length-map, length-take, map-append, take_more, get_or_append_left}
use Rattle.std.proofs.Math.Seq.{get_or-append_seam}
use Rattle.std.proofs.lemmas.Bool.{cases_lt}
use Rattle.std.specs.List.{All}
use Rattle.hp_math.specs.Rational.{ℚ, whole}
use Rattle.hp_lit.specs.declared.valuation.NameValue.{NameValue}
use Rattle.hp_lit.specs.Truth.{Values, name_value, optional_value}
use Rattle.hp_nodes.specs.Nodes.{AreNamedValues, name_at}

-- one name more with its value
pub next_named : (names : List ℕ) (node_value : ℕ → ℚ) (named : List NameValue) (at : ℕ) (item : NameValue) → at < length names → item.name.0 ≡ get_or names at 0
    → item.value ≡ node_value (at + 1) → AreNamedValues (take at names) node_value named → AreNamedValues (take (at + 1) names) node_value (named ++ item ∷ [])
next_named names node_value named at item h name value n =
    let number = λ (nv : NameValue). nv.name.0 in
    let size : length named ≡ at = sym (length-map named number) ∙ ap length n.same ∙ length-take at names ∙ omega arith in
    record {
      same = map-append number named (item ∷ []) ∙ (λ i. n.same i ++ name i ∷ []) ∙ sym (take_more names at 0 h);
      value = λ k d k_in. elim (cases_lt k at) [
        | inl l ↦
            (let inside : k < length named = omega (arith, size) in
            let before : k < length (take at names) = omega (arith, length-take at names) in
            ap (λ (nv : NameValue). nv.value) (get_or_append_left named (item ∷ []) d k inside) ∙ n.value k d before)
        | inr l ↦
            (let is : k ≡ length named = omega (arith, size, length-take (at + 1) names) in
            let last : get_or (named ++ item ∷ []) k d ≡ item = ap (λ j. get_or (named ++ item ∷ []) j d) is ∙ get_or-append_seam named item [] d in
            ap (λ (nv : NameValue). nv.value) last ∙ value ∙ ap (λ j. node_value (j + 1)) (sym (is ∙ size)))
      ];
    }

module _ (names : List ℕ) (node_value : ℕ → ℚ) (named : List NameValue) (n : AreNamedValues names node_value named) where
  pub same_length : length named ≡ length names
  same_length = sym (length-map named (λ nv. nv.name.0)) ∙ ap length n.same

  name_of_item : (k : ℕ) (d : NameValue) → k < length names → (get_or named k d).name.0 ≡ get_or names k 0
  name_of_item k d h =
      let inside : k < length named = omega (arith, same_length) in
      sym (get_or-map (λ (nv : NameValue). nv.name.0) named k d 0 inside) ∙ ap (λ ns. get_or ns k 0) n.same

  -- what a valuation that agrees gives the name of a node
  pub value_of_node : whole (pos 0) ≡ node_value 0 → (v : Values) → All (λ nv. name_value v nv.name.0 ≡ nv.value) named → (d : NameValue) (x : ℕ) → x ≤ length names
      → optional_value v (name_at names x) ≡ node_value x
  value_of_node null v all d zero h = null
  value_of_node null v all d (suc k) h =
      let inside : k < length named = omega (arith, same_length) in
      ap (name_value v) (sym (name_of_item k d (omega arith))) ∙ all k d inside ∙ n.value k d (omega arith) ∙ ap node_value (add-one k)
