-- The points of a frame are congruent where the applications of each function are.
use Rattle.std.proofs.Common.{◌≡◌, ◌∙◌, ℕ, true, List, [], ◌∷◌, map, inl, inr, Option, Some, None, refl, sym, ap, subst}
use Rattle.std.specs.Prelude.{slice_get}
use Rattle.std.specs.List.{Contains}
use Rattle.std.specs.Str.{bytes_eq}
use Rattle.std.proofs.lemmas.List.Elements.{Contains-append_cases}
use Rattle.hp_names.proofs.Texts.{text_same}
use Rattle.hp_tree.specs.Value.{Word}
use Rattle.hp_lit.specs.declared.line.Body.{Body}
use Rattle.hp_lit.specs.declared.line.Body.TheVariants.{Apply, Sum}
use Rattle.hp_lit.specs.declared.line.Def.{Def}
use Rattle.hp_lit.specs.Truth.{Values}
use Rattle.hp_local.specs.Frame.{Fact}
use Rattle.hp_local.proofs.Lists.{contains_cases, contains_filter, contains_none, map_contains}
use Rattle.hp_defs.specs.declared.names.Signature.{Signature}
use Rattle.hp_base.specs.Congruence.{Point}
use Rattle.hp_class.specs.Frame.{body_facts, definition_facts, fact_of, signature_facts}
use Rattle.hp_class.specs.Laws.{FactsAreCongruent}
use Rattle.hp_class.specs.Points.{points}
use Rattle.hp_class.proofs.Facts.{own_facts_are_points}

-- a point of a function that there is
record IsKnown (ss : List Signature) (k : Fact) : Type 0 where
  func : ℕ
  signature : Signature
  known : slice_get ss func ≡ Some signature
  name : k.func ≡ signature.name

module _ (ss : List Signature) (v : Values) where
  signature_known : (func : ℕ) (p : Point) (o : Option Signature) (k : Fact) → slice_get ss func ≡ o → Contains (signature_facts v p o) k → IsKnown ss k
  signature_known func p None k e m = absurd (contains_none k m)
  signature_known func p (Some s) k e m = elim (contains_cases (fact_of s.name v p) [] k m) [
    | inl same ↦ record { func = func; signature = s; known = e; name = ap (λ (j : Fact). j.func) (sym same) }
    | inr none ↦ absurd (contains_none k none)
  ]

  body_known : (d : Def) (body : Body) (k : Fact) → Contains (body_facts ss v d body) k → IsKnown ss k
  body_known d (Apply func args) k m = signature_known func (record { name = d.name; args = args }) (slice_get ss func) k refl m
  body_known d (Sum lin) k m = absurd (contains_none k m)

  fact_known : (ds : List Def) (k : Fact) → Contains (definition_facts ss v ds) k → IsKnown ss k
  fact_known [] k m = absurd (contains_none k m)
  fact_known (d ∷ ds) k m = elim (Contains-append_cases (body_facts ss v d d.body) (definition_facts ss v ds) k m) [
    | inl h ↦ body_known d d.body k h
    | inr l ↦ fact_known ds k l
  ]

pub facts_are_congruent : FactsAreCongruent
facts_are_congruent size names v made congruent k l m n func args =
    let facts = definition_facts names.signatures v names.definitions in
    let w = fact_known names.signatures v names.definitions k m in
    let word = w.signature.name in
    let all = own_facts_are_points names v w.func w.signature made w.known in
    let named : (j : Fact) → j.func ≡ word → Contains facts j → Contains (map (fact_of word v) (points w.func names.definitions)) j =
    λ j e among. subst (λ (fs : List Fact). Contains fs j) all
    (contains_filter (λ (i : Fact). bytes_eq word i.func) facts j among (subst (λ (x : Word). bytes_eq word x ≡ true) (sym e) (text_same word))) in
    let p = map_contains (fact_of word v) (points w.func names.definitions) k (named k w.name m) in
    let q = map_contains (fact_of word v) (points w.func names.definitions) l (named l (sym func ∙ w.name) n) in
    ap (λ (j : Fact). j.value) (sym p.2)
    ∙ congruent w.func w.signature w.known p.0 q.0 p.1 q.1 (ap (λ (j : Fact). j.args) p.2 ∙ args ∙ ap (λ (j : Fact). j.args) (sym q.2))
    ∙ ap (λ (j : Fact). j.value) q.2
