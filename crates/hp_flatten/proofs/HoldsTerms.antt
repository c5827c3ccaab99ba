-- A term of a flat clause has the value that its flattened term has where each name and each application of it has.
use Rattle.std.proofs.Common.{◌≡◌, ◌≤◌, suc, List, [], ◌∷◌, ◌++◌, map, length, Some, refl, sym, ap, subst, ◌∙◌, arith}
use Rattle.std.specs.Prelude.{if◌then◌else◌}
use Rattle.std.specs.List.{All}
use Rattle.std.specs.Str.{bytes_eq}
use Rattle.std.proofs.lemmas.List.{length-append}
use Rattle.std.proofs.lemmas.List.Elements.{All-nil, All-cons, All-head, All-tail, All-append}
use Rattle.hp_math.specs.Rational.{ℚ, ◌+ℚ◌, ◌-ℚ◌, ◌*ℚ◌, neg_ℚ}
use Rattle.hp_tree.specs.declared.term.Term.{Term, Name, Apply, fold-roll-Term, map-Term, out-Term, out-roll-Term, roll-Term}
use Rattle.hp_tree.specs.declared.term.Term.TheOpen.{Term-F}
use Rattle.hp_tree.specs.declared.term.Term.TheVariants.{rolls-Null, rolls-Name, rolls-Add, rolls-Sub, rolls-Neg, rolls-Scale}
use Rattle.hp_tree.specs.declared.problem.Sort.{Sort}
use Rattle.hp_tree.specs.declared.problem.Var.{Var}
use Rattle.hp_tree.specs.Value.{Environment, Functions, Word, value, value_step}
use Rattle.hp_terms.specs.Occurring.{joined}
use Rattle.hp_terms.specs.Scope.{Scope}
use Rattle.hp_terms.specs.Laws.{HasSort, parts_of}
use Rattle.hp_terms.proofs.Parts.{parts_of_sorted_terms_are_sorted}
use Rattle.hp_index.proofs.Layers.{Parts, bare, by_layers}
use Rattle.hp_local.proofs.Terms.{name_value, number_value}
use Rattle.hp_norm.proofs.Seeing.{by_term_roll}
use Rattle.hp_norm.proofs.TermsNamed.{word_has_sort}
use Rattle.hp_flatten.specs.declared.application.Application.{Application}
use Rattle.hp_flatten.specs.Applications.{application_of, applications, applications_step}
use Rattle.hp_flatten.specs.Flattening.{argument_names, flat_step, flat_term, flat_word, name_in}

-- ---- names
abbrev IsAlone : Term → Type 0
IsAlone t = (word : Word) → name_in (out-Term t) ≡ Some word → t ≡ Name word

layer_alone : (z : Term-F Term) (word : Word) → name_in z ≡ Some word → roll-Term z ≡ Name word
layer_alone (Term-F.Number q) word e = absurd (cc)
layer_alone Term-F.Null word e = absurd (cc)
layer_alone (Term-F.Name own) word e = rolls-Name own ∙ (let same : own ≡ word = cc in ap Name same)
layer_alone (Term-F.Apply func args) word e = absurd (cc)
layer_alone (Term-F.Add a b) word e = absurd (cc)
layer_alone (Term-F.Sub a b) word e = absurd (cc)
layer_alone (Term-F.Neg a) word e = absurd (cc)
layer_alone (Term-F.Scale q a) word e = absurd (cc)

-- a term that is a name is that name
pub name_alone : (t : Term) → IsAlone t
name_alone t = by_layers IsAlone (λ y word e. layer_alone (bare IsAlone y) word (ap name_in (sym (out-roll-Term (bare IsAlone y))) ∙ e)) t

-- ---- applications at a layer
pub applications_at : (z : Term-F Term) → applications (roll-Term z) ≡ applications_step (roll-Term z) (map-Term Term (List Application) applications z)
applications_at z = by_term_roll applications_step z

pub applications_apply : (func : Word) (args : List Term) → applications (roll-Term (Term-F.Apply func args)) ≡ record { func = func; args = args } ∷ joined (map applications args)
applications_apply func args = applications_at (Term-F.Apply func args) ∙ ap (λ z. application_of z ++ joined (map applications args)) (out-roll-Term (Term-F.Apply func args))

-- ---- parts of lists
pub front : {X : Type 0} (P : X → Type 0) (xs ys : List X) → All P (xs ++ ys) → All P xs
front P [] ys h = All-nil P
front P (x ∷ xs) ys h = All-cons P x xs (All-head P x (xs ++ ys) h) (front P xs ys (All-tail P x (xs ++ ys) h))

pub back : {X : Type 0} (P : X → Type 0) (xs ys : List X) → All P (xs ++ ys) → All P ys
back P [] ys h = h
back P (x ∷ xs) ys h = back P xs ys (All-tail P x (xs ++ ys) h)

-- ---- values
module _ (scope : Scope) (a : Application) (vars : List Var) (inner outer : Environment) (functions : Functions) (Allowed : Application → Type 0)
    (words_same : (word : Word) (sort : Sort) → scope.name word ≡ Some sort → inner (flat_word vars a.args word) ≡ outer word)
    (applied : (func : Word) (args flats : List Term) → Allowed (record { func = func; args = args })
    → value inner functions (Apply func (if bytes_eq func a.func then argument_names (length a.args) else flats)) ≡ functions func (map (value outer functions) args)) where
  abbrev flat : Term → Term
  flat = flat_term a vars

  abbrev Same : Term → Type 0
  Same t = HasSort scope t → All Allowed (applications t) → value inner functions (flat t) ≡ value outer functions t

  abbrev one_at : Term-F Term → Term
  one_at z = flat_step a vars (map-Term Term Term flat z)

  abbrev outer_at : Term-F Term → ℚ
  outer_at z = value_step outer functions (map-Term Term ℚ (value outer functions) z)

  part_same : (e : Parts Same) → All (HasSort scope) (e.0 ∷ []) → All Allowed (applications e.0) → value inner functions (flat e.0) ≡ value outer functions e.0
  part_same e sorted allowed = e.1 (All-head (HasSort scope) e.0 [] sorted) allowed

  parts_same : (e f : Parts Same) → All (HasSort scope) (e.0 ∷ f.0 ∷ []) → All Allowed (applications e.0 ++ applications f.0)
      → (value inner functions (flat e.0) ≡ value outer functions e.0) × (value inner functions (flat f.0) ≡ value outer functions f.0)
  parts_same e f sorted allowed = (
    e.1 (All-head (HasSort scope) e.0 (f.0 ∷ []) sorted) (front Allowed (applications e.0) (applications f.0) allowed),
    part_same f (All-tail (HasSort scope) e.0 (f.0 ∷ []) sorted) (back Allowed (applications e.0) (applications f.0) allowed),
  )

  at_layer : (z : Term-F Term) → value inner functions (roll-Term z) ≡ value_step inner functions (map-Term Term ℚ (value inner functions) z)
  at_layer z = fold-roll-Term ℚ (value_step inner functions) z

  layer_same : (y : Term-F (Parts Same)) → let z = bare Same y in HasSort scope (roll-Term z) → All (HasSort scope) (parts_of z) → All Allowed (applications (roll-Term z)) → value inner functions (one_at z) ≡ outer_at z
  layer_same (Term-F.Number q) own sorted allowed = number_value inner functions q
  layer_same Term-F.Null own sorted allowed = ap (value inner functions) (sym rolls-Null) ∙ at_layer Term-F.Null
  layer_same (Term-F.Name word) own sorted allowed = let s = word_has_sort scope word own in name_value inner functions (flat_word vars a.args word) ∙ words_same word s.0 s.1
  layer_same (Term-F.Apply func args) own sorted allowed =
      let terms : List Term = map (λ (e : Parts Same). e.0) args in
      let first = All-head Allowed (record { func = func; args = terms }) (joined (map applications terms)) (subst (All Allowed) (applications_apply func terms) allowed) in
      applied func terms (map flat terms) first
  layer_same (Term-F.Add e f) own sorted allowed =
      let h = parts_same e f sorted (subst (All Allowed) (applications_at (Term-F.Add e.0 f.0)) allowed) in
      ap (value inner functions) (sym (rolls-Add (flat e.0) (flat f.0))) ∙ at_layer (Term-F.Add (flat e.0) (flat f.0)) ∙ (λ i. h.0 i +ℚ h.1 i)
  layer_same (Term-F.Sub e f) own sorted allowed =
      let h = parts_same e f sorted (subst (All Allowed) (applications_at (Term-F.Sub e.0 f.0)) allowed) in
      ap (value inner functions) (sym (rolls-Sub (flat e.0) (flat f.0))) ∙ at_layer (Term-F.Sub (flat e.0) (flat f.0)) ∙ (λ i. h.0 i -ℚ h.1 i)
  layer_same (Term-F.Neg e) own sorted allowed =
      let h = part_same e sorted (subst (All Allowed) (applications_at (Term-F.Neg e.0)) allowed) in
      ap (value inner functions) (sym (rolls-Neg (flat e.0))) ∙ at_layer (Term-F.Neg (flat e.0)) ∙ ap neg_ℚ h
  layer_same (Term-F.Scale q e) own sorted allowed =
      let h = part_same e sorted (subst (All Allowed) (applications_at (Term-F.Scale q e.0)) allowed) in
      ap (value inner functions) (sym (rolls-Scale q (flat e.0))) ∙ at_layer (Term-F.Scale q (flat e.0)) ∙ ap (λ x. q *ℚ x) h

  pub flat_term_same : (t : Term) → Same t
  flat_term_same t = by_layers Same (λ y own allowed.
      ap (value inner functions) (fold-roll-Term Term (flat_step a vars) (bare Same y))
      ∙ layer_same y own (parts_of_sorted_terms_are_sorted scope (bare Same y) own) allowed
      ∙ sym (fold-roll-Term ℚ (value_step outer functions) (bare Same y))) t

-- ---- the arguments of one application
-- they are sorted, and no application stands in them
pub record HasBareArguments (scope : Scope) (a : Application) : Type 0 where
  pub sorted : All (HasSort scope) a.args
  pub none : joined (map applications a.args) ≡ []

module _ (scope : Scope) where
  abbrev Bare : Application → Type 0
  Bare = HasBareArguments scope

  abbrev IsFew : Term → Type 0
  IsFew t = HasSort scope t → length (applications t) ≤ 1 → All Bare (applications t)

  empty : {X : Type 0} (xs : List X) → suc (length xs) ≤ 1 → xs ≡ []
  empty [] l = refl
  empty (x ∷ xs) l = absurd (omega arith)

  one_few : (e : Parts IsFew) → All (HasSort scope) (e.0 ∷ []) → length (applications e.0) ≤ 1 → All Bare (applications e.0)
  one_few e sorted few = e.1 (All-head (HasSort scope) e.0 [] sorted) few

  two_few : (e f : Parts IsFew) → All (HasSort scope) (e.0 ∷ f.0 ∷ []) → length (applications e.0 ++ applications f.0) ≤ 1 → All Bare (applications e.0 ++ applications f.0)
  two_few e f sorted few =
      let sum = length-append (applications e.0) (applications f.0) in
      All-append Bare (applications e.0) (applications f.0)
      (e.1 (All-head (HasSort scope) e.0 (f.0 ∷ []) sorted) (omega arith))
      (one_few f (All-tail (HasSort scope) e.0 (f.0 ∷ []) sorted) (omega arith))

  apply_few : (func : Word) (args : List Term) → All (HasSort scope) args → suc (length (joined (map applications args))) ≤ 1
      → All Bare (record { func = func; args = args } ∷ joined (map applications args))
  apply_few func args sorted few =
      let none = empty (joined (map applications args)) few in
      let own : Bare (record { func = func; args = args }) = record { sorted = sorted; none = none } in
      All-cons Bare (record { func = func; args = args }) (joined (map applications args)) own (subst (All Bare) (sym none) (All-nil Bare))

  layer_few : (y : Term-F (Parts IsFew)) → let z = bare IsFew y in let apps = applications_step (roll-Term z) (map-Term Term (List Application) applications z) in
      All (HasSort scope) (parts_of z) → length apps ≤ 1 → All Bare apps
  layer_few (Term-F.Number q) sorted few = All-nil Bare
  layer_few Term-F.Null sorted few = All-nil Bare
  layer_few (Term-F.Name word) sorted few = All-nil Bare
  layer_few (Term-F.Apply func args) sorted few =
      let terms : List Term = map (λ (e : Parts IsFew). e.0) args in
      let is = ap (λ z. application_of z ++ joined (map applications terms)) (out-roll-Term (Term-F.Apply func terms)) in
      subst (All Bare) (sym is) (apply_few func terms sorted (subst (λ (xs : List Application). length xs ≤ 1) is few))
  layer_few (Term-F.Add e f) sorted few = two_few e f sorted few
  layer_few (Term-F.Sub e f) sorted few = two_few e f sorted few
  layer_few (Term-F.Neg e) sorted few = one_few e sorted few
  layer_few (Term-F.Scale q e) sorted few = one_few e sorted few

  -- a sorted term with one application
  pub few_bare : (t : Term) → IsFew t
  few_bare t = by_layers IsFew (λ y own few.
      let is = applications_at (bare IsFew y) in
      subst (All Bare) (sym is) (layer_few y (parts_of_sorted_terms_are_sorted scope (bare IsFew y) own) (subst (λ (xs : List Application). length xs ≤ 1) is few))) t
