-- A flattened term has all the forms of its source, and weighs no more; and where the applications of a term stand.
use Rattle.std.proofs.Common.{◌≡◌, ◌+◌, ◌<◌, ◌≤◌, ℕ, true, List, [], ◌∷◌, ◌++◌, map, length, Option, Some, refl, sym, ap, subst, ◌∙◌, arith}
use Rattle.std.specs.Prelude.{if◌then◌else◌, option_map, take}
use Rattle.std.specs.List.{All}
use Rattle.std.specs.Option.{option_or}
use Rattle.std.specs.Str.{bytes_eq}
use Rattle.std.proofs.lemmas.List.Elements.{All-nil, All-cons, All-head, All-tail, All-append}
use Rattle.std.proofs.lemmas.Slice.Eq.{bytes_eq-Decides}
use Rattle.hp_math.specs.Rational.{ℚ}
use Rattle.hp_tree.specs.declared.term.Term.{Term, Number, Null, Name, Apply, Add, Sub, Neg, Scale, fold-roll-Term, map-Term, roll-Term}
use Rattle.hp_tree.specs.declared.term.Term.TheOpen.{Term-F}
use Rattle.hp_tree.specs.declared.term.Term.TheVariants.{rolls-Number, rolls-Null, rolls-Name, rolls-Apply, rolls-Add, rolls-Sub, rolls-Neg, rolls-Scale}
use Rattle.hp_tree.specs.declared.problem.Sort.{Sort}
use Rattle.hp_tree.specs.declared.problem.Var.{Var}
use Rattle.hp_tree.specs.Value.{Word}
use Rattle.hp_terms.specs.declared.forms.Forms.{Forms}
use Rattle.hp_terms.specs.Occurring.{joined}
use Rattle.hp_terms.specs.Scope.{Profile, Scope}
use Rattle.hp_terms.specs.Sorting.{application_forms, first_sort, first_step, fit, forms_of, forms_step, name_forms, no_forms, sort_forms}
use Rattle.hp_terms.specs.Weight.{weight, weight_step, weights}
use Rattle.hp_terms.specs.Laws.{FollowsProfile, HasSort, parts_of}
use Rattle.hp_terms.proofs.Parts.{applications_follow_profiles, parts_of_sorted_terms_are_sorted}
use Rattle.hp_terms.proofs.Weights.{parts_weigh_no_more}
use Rattle.hp_index.proofs.Layers.{Parts, bare, by_layers}
use Rattle.hp_local.specs.Rows.{argument_words}
use Rattle.hp_norm.proofs.FormsKept.{KeepsForms, difference_kept, multiple_kept, negation_kept, number_kept, result_kept, same_kept, sum_kept}
use Rattle.hp_norm.proofs.TermsNamed.{word_has_sort}
use Rattle.hp_flatten.specs.declared.application.Application.{Application}
use Rattle.hp_flatten.specs.Applications.{applications}
use Rattle.hp_flatten.specs.Flattening.{argument_names, flat_step, flat_term, flat_word}
use Rattle.hp_flatten.proofs.HoldsTerms.{applications_apply, applications_at, back, front}

-- ---- layers
abbrev forms_at : Scope → Term-F Term → Forms
forms_at scope z = forms_step scope (map-Term Term Forms (forms_of scope) z)

abbrev first_at : Scope → Term-F Term → Option Sort
first_at scope z = first_step scope (map-Term Term (Option Sort) (first_sort scope) z)

abbrev weight_at : Term-F Term → ℕ
weight_at z = weight_step (map-Term Term ℕ weight z)

-- a name has the sort of its word, and weighs nothing
pub name_has : (scope : Scope) (word : Word) → forms_of scope (Name word) ≡ name_forms (scope.name word)
name_has scope word = ap (forms_of scope) (sym (rolls-Name word)) ∙ fold-roll-Term Forms (forms_step scope) (Term-F.Name word)

pub name_first : (scope : Scope) (word : Word) → first_sort scope (Name word) ≡ scope.name word
name_first scope word = ap (first_sort scope) (sym (rolls-Name word)) ∙ fold-roll-Term (Option Sort) (first_step scope) (Term-F.Name word)

pub name_weighs : (word : Word) → weight (Name word) ≡ 0
name_weighs word = ap weight (sym (rolls-Name word)) ∙ fold-roll-Term ℕ weight_step (Term-F.Name word)

names_weigh : (words : List Word) → weights (map weight (map Name words)) ≡ 0
names_weigh [] = refl
names_weigh (word ∷ words) = λ i. name_weighs word i + names_weigh words i

-- ---- what a flattened term keeps
module _ (own now : Scope) where
  pub record KeepsTerm (term flat : Term) : Type 0 where
    pub forms : KeepsForms (forms_of own term) (forms_of now flat)
    pub first : first_sort own term ≡ first_sort now flat
    pub light : weight flat ≤ weight term

  record KeepsLayer (z w : Term-F Term) : Type 0 where
    pub forms : KeepsForms (forms_at own z) (forms_at now w)
    pub first : first_at own z ≡ first_at now w
    pub light : weight_at w ≤ weight_at z

  keeps_layer : (z w : Term-F Term) → KeepsLayer z w → KeepsTerm (roll-Term z) (roll-Term w)
  keeps_layer z w h = record {
    forms =
        subst (λ (f : Forms). KeepsForms f (forms_of now (roll-Term w))) (sym (fold-roll-Term Forms (forms_step own) z))
        (subst (λ (g : Forms). KeepsForms (forms_at own z) g) (sym (fold-roll-Term Forms (forms_step now) w)) h.forms);
    first = fold-roll-Term (Option Sort) (first_step own) z ∙ h.first ∙ sym (fold-roll-Term (Option Sort) (first_step now) w);
    light =
        let less = h.light in
        let source = fold-roll-Term ℕ weight_step z in
        let flat = fold-roll-Term ℕ weight_step w in
        omega (arith, less, source, flat);
  }

  becomes : (z w : Term-F Term) (flat : Term) → roll-Term w ≡ flat → KeepsLayer z w → KeepsTerm (roll-Term z) flat
  becomes z w flat e h = subst (KeepsTerm (roll-Term z)) e (keeps_layer z w h)

module _ (own now : Scope) (a : Application) (vars : List Var)
    (names_kept : (word : Word) (s : Sort) → own.name word ≡ Some s → now.name (flat_word vars a.args word) ≡ own.name word)
    (functions_kept : (word : Word) → own.function word ≡ now.function word)
    (pointers_kept : (q : ℚ) → own.pointer q ≡ true → now.pointer q ≡ true)
    (profile : Profile) (known : own.function a.func ≡ Some profile)
    (fits : fit (map (forms_of now) (argument_names (length a.args))) profile.args ≡ true) where
  abbrev flat : Term → Term
  flat = flat_term a vars

  abbrev Keeps : Term → Term → Type 0
  Keeps = KeepsTerm own now

  abbrev IsIt : Application → Type 0
  IsIt x = x ≡ a

  abbrev IsKept : Term → Type 0
  IsKept t = HasSort own t → All IsIt (applications t) → Keeps t (flat t)

  abbrev one_at : Term-F Term → Term
  one_at z = flat_step a vars (map-Term Term Term flat z)

  name_keeps : (word other : Word) → now.name other ≡ own.name word → KeepsLayer own now (Term-F.Name word) (Term-F.Name other)
  name_keeps word other same = record {
    forms = subst (λ (o : Option Sort). KeepsForms (name_forms (own.name word)) (name_forms o)) (sym same) (same_kept (name_forms (own.name word)));
    first = sym same;
    light = omega arith;
  }

  apply_keeps : (func : Word) (args : List Term) → func ≡ a.func → KeepsLayer own now (Term-F.Apply func args) (Term-F.Apply func (argument_names (length a.args)))
  apply_keeps func args same =
      let xs = map (forms_of own) args in
      let ys = map (forms_of now) (argument_names (length a.args)) in
      let first : own.function func ≡ Some profile = ap own.function same ∙ known in
      let last : now.function func ≡ Some profile = sym (functions_kept func) ∙ first in
      let none = names_weigh (take (length a.args) argument_words) in
      record {
        forms =
            subst (λ (o : Option Profile). KeepsForms (application_forms xs o) (application_forms ys (now.function func))) (sym first)
            (subst (λ (o : Option Profile). KeepsForms (application_forms xs (Some profile)) (application_forms ys o)) (sym last)
            (subst (λ b. KeepsForms (application_forms xs (Some profile)) (if b then sort_forms profile.result else no_forms)) (sym fits) (result_kept (fit xs profile.args) profile.result)));
        first = ap (option_map (λ (p : Profile). p.result)) (functions_kept func);
        light = omega (arith, none);
      }

  flat_applies : (func : Word) (args flats : List Term) → record { func = func; args = args } ≡ a
      → Keeps (roll-Term (Term-F.Apply func args)) (Apply func (if bytes_eq func a.func then argument_names (length a.args) else flats))
  flat_applies func args flats is =
      let same : func ≡ a.func = ap (λ (x : Application). x.func) is in
      let test : bytes_eq func a.func ≡ true = (bytes_eq-Decides func a.func).1 same in
      let names = argument_names (length a.args) in
      subst (λ b. Keeps (roll-Term (Term-F.Apply func args)) (Apply func (if b then names else flats))) (sym test)
      (becomes own now (Term-F.Apply func args) (Term-F.Apply func names) (Apply func names) (rolls-Apply func names) (apply_keeps func args same))

  sums_keep : (s t x y : Term) → Keeps s x → Keeps t y → KeepsLayer own now (Term-F.Add s t) (Term-F.Add x y)
  sums_keep s t x y h k = record {
    forms = sum_kept _ _ _ _ h.forms k.forms;
    first = λ i. option_or (h.first i) (k.first i);
    light = let m = h.light in let n = k.light in omega (arith, m, n);
  }

  differences_keep : (s t x y : Term) → Keeps s x → Keeps t y → KeepsLayer own now (Term-F.Sub s t) (Term-F.Sub x y)
  differences_keep s t x y h k = record {
    forms = difference_kept _ _ _ _ h.forms k.forms;
    first = λ i. option_or (h.first i) (k.first i);
    light = let m = h.light in let n = k.light in omega (arith, m, n);
  }

  one_keeps : (e : Parts IsKept) → All (HasSort own) (e.0 ∷ []) → All IsIt (applications e.0) → Keeps e.0 (flat e.0)
  one_keeps e sorted it = e.1 (All-head (HasSort own) e.0 [] sorted) it

  two_keep : (e f : Parts IsKept) → All (HasSort own) (e.0 ∷ f.0 ∷ []) → All IsIt (applications e.0 ++ applications f.0) → Keeps e.0 (flat e.0) × Keeps f.0 (flat f.0)
  two_keep e f sorted it = (
    e.1 (All-head (HasSort own) e.0 (f.0 ∷ []) sorted) (front IsIt (applications e.0) (applications f.0) it),
    one_keeps f (All-tail (HasSort own) e.0 (f.0 ∷ []) sorted) (back IsIt (applications e.0) (applications f.0) it),
  )

  layer_keeps : (y : Term-F (Parts IsKept)) → let z = bare IsKept y in HasSort own (roll-Term z) → All (HasSort own) (parts_of z) → All IsIt (applications (roll-Term z)) → Keeps (roll-Term z) (one_at z)
  layer_keeps (Term-F.Number q) sorted parts it =
      becomes own now (Term-F.Number q) (Term-F.Number q) (Number q) (rolls-Number q)
      (record { forms = number_kept own.pointer now.pointer q (pointers_kept q); first = refl; light = omega arith })
  layer_keeps Term-F.Null sorted parts it = becomes own now Term-F.Null Term-F.Null Null rolls-Null (record { forms = same_kept _; first = refl; light = omega arith })
  layer_keeps (Term-F.Name word) sorted parts it =
      let s = word_has_sort own word sorted in
      let other = flat_word vars a.args word in
      becomes own now (Term-F.Name word) (Term-F.Name other) (Name other) (rolls-Name other) (name_keeps word other (names_kept word s.0 s.1))
  layer_keeps (Term-F.Apply func args) sorted parts it =
      let terms : List Term = map (λ (e : Parts IsKept). e.0) args in
      flat_applies func terms (map flat terms)
      (All-head IsIt (record { func = func; args = terms }) (joined (map applications terms)) (subst (All IsIt) (applications_apply func terms) it))
  layer_keeps (Term-F.Add e f) sorted parts it =
      let h = two_keep e f parts (subst (All IsIt) (applications_at (Term-F.Add e.0 f.0)) it) in
      becomes own now (Term-F.Add e.0 f.0) (Term-F.Add (flat e.0) (flat f.0)) (Add (flat e.0) (flat f.0)) (rolls-Add (flat e.0) (flat f.0)) (sums_keep e.0 f.0 (flat e.0) (flat f.0) h.0 h.1)
  layer_keeps (Term-F.Sub e f) sorted parts it =
      let h = two_keep e f parts (subst (All IsIt) (applications_at (Term-F.Sub e.0 f.0)) it) in
      becomes own now (Term-F.Sub e.0 f.0) (Term-F.Sub (flat e.0) (flat f.0)) (Sub (flat e.0) (flat f.0)) (rolls-Sub (flat e.0) (flat f.0)) (differences_keep e.0 f.0 (flat e.0) (flat f.0) h.0 h.1)
  layer_keeps (Term-F.Neg e) sorted parts it =
      let h = one_keeps e parts (subst (All IsIt) (applications_at (Term-F.Neg e.0)) it) in
      let less = h.light in
      becomes own now (Term-F.Neg e.0) (Term-F.Neg (flat e.0)) (Neg (flat e.0)) (rolls-Neg (flat e.0))
      (record { forms = negation_kept _ _ h.forms; first = h.first; light = less })
  layer_keeps (Term-F.Scale q e) sorted parts it =
      let h = one_keeps e parts (subst (All IsIt) (applications_at (Term-F.Scale q e.0)) it) in
      let less = h.light in
      becomes own now (Term-F.Scale q e.0) (Term-F.Scale q (flat e.0)) (Scale q (flat e.0)) (rolls-Scale q (flat e.0))
      (record { forms = multiple_kept _ _ h.forms; first = h.first; light = omega (arith, less) })

  pub term_keeps : (t : Term) → IsKept t
  term_keeps t = by_layers IsKept (λ y sorted it.
      subst (Keeps (roll-Term (bare IsKept y))) (sym (fold-roll-Term Term (flat_step a vars) (bare IsKept y)))
      (layer_keeps y sorted (parts_of_sorted_terms_are_sorted own (bare IsKept y) sorted) it)) t

-- ---- where an application stands
-- its arguments have the sorts of their places, and weigh less than so much together
pub record IsPlaced (scope : Scope) (most : ℕ) (x : Application) : Type 0 where
  pub sort : Sort
  pub follows : FollowsProfile scope x.func x.args sort
  pub light : weights (map weight x.args) < most

module _ (scope : Scope) (most : ℕ) where
  abbrev Placed : Application → Type 0
  Placed = IsPlaced scope most

  abbrev IsUnder : Term → Type 0
  IsUnder t = weight t < most

  abbrev HasPlaced : Term → Type 0
  HasPlaced t = HasSort scope t → IsUnder t → All Placed (applications t)

  parts_under : (z : Term-F Term) → IsUnder (roll-Term z) → All IsUnder (parts_of z)
  parts_under z under = through (parts_of z) (parts_weigh_no_more z)
    where
      through : (ts : List Term) → All (λ part. weight part ≤ weight (roll-Term z)) ts → All IsUnder ts
      through [] less = All-nil IsUnder
      through (t ∷ ts) less =
          let own = All-head (λ part. weight part ≤ weight (roll-Term z)) t ts less in
          All-cons IsUnder t ts (omega (arith, own, under)) (through ts (All-tail (λ part. weight part ≤ weight (roll-Term z)) t ts less))

  one_placed : (e : Parts HasPlaced) → All (HasSort scope) (e.0 ∷ []) → All IsUnder (e.0 ∷ []) → All Placed (applications e.0)
  one_placed e sorted under = e.1 (All-head (HasSort scope) e.0 [] sorted) (All-head IsUnder e.0 [] under)

  two_placed : (e f : Parts HasPlaced) → All (HasSort scope) (e.0 ∷ f.0 ∷ []) → All IsUnder (e.0 ∷ f.0 ∷ []) → All Placed (applications e.0 ++ applications f.0)
  two_placed e f sorted under =
      All-append Placed (applications e.0) (applications f.0)
      (e.1 (All-head (HasSort scope) e.0 (f.0 ∷ []) sorted) (All-head IsUnder e.0 (f.0 ∷ []) under))
      (one_placed f (All-tail (HasSort scope) e.0 (f.0 ∷ []) sorted) (All-tail IsUnder e.0 (f.0 ∷ []) under))

  all_placed : (es : List (Parts HasPlaced)) → let ts : List Term = map (λ (e : Parts HasPlaced). e.0) es in All (HasSort scope) ts → All IsUnder ts → All Placed (joined (map applications ts))
  all_placed [] sorted under = All-nil Placed
  all_placed (e ∷ es) sorted under =
      let ts : List Term = map (λ (e : Parts HasPlaced). e.0) es in
      All-append Placed (applications e.0) (joined (map applications ts))
      (e.1 (All-head (HasSort scope) e.0 ts sorted) (All-head IsUnder e.0 ts under))
      (all_placed es (All-tail (HasSort scope) e.0 ts sorted) (All-tail IsUnder e.0 ts under))

  apply_placed : (func : Word) (args : List Term) → HasSort scope (roll-Term (Term-F.Apply func args)) → IsUnder (roll-Term (Term-F.Apply func args)) → Placed (record { func = func; args = args })
  apply_placed func args sorted under = record {
    sort = sorted.sort;
    follows = applications_follow_profiles scope func args sorted.sort sorted.is;
    light = subst (λ n. n < most) (fold-roll-Term ℕ weight_step (Term-F.Apply func args)) under;
  }

  layer_placed : (y : Term-F (Parts HasPlaced)) → let z = bare HasPlaced y in
      HasSort scope (roll-Term z) → IsUnder (roll-Term z) → All (HasSort scope) (parts_of z) → All IsUnder (parts_of z) → All Placed (applications (roll-Term z))
  layer_placed (Term-F.Number q) own under parts less = subst (All Placed) (sym (applications_at (Term-F.Number q))) (All-nil Placed)
  layer_placed Term-F.Null own under parts less = subst (All Placed) (sym (applications_at Term-F.Null)) (All-nil Placed)
  layer_placed (Term-F.Name word) own under parts less = subst (All Placed) (sym (applications_at (Term-F.Name word))) (All-nil Placed)
  layer_placed (Term-F.Apply func args) own under parts less =
      let terms : List Term = map (λ (e : Parts HasPlaced). e.0) args in
      subst (All Placed) (sym (applications_apply func terms))
      (All-cons Placed (record { func = func; args = terms }) (joined (map applications terms)) (apply_placed func terms own under) (all_placed args parts less))
  layer_placed (Term-F.Add e f) own under parts less = subst (All Placed) (sym (applications_at (Term-F.Add e.0 f.0))) (two_placed e f parts less)
  layer_placed (Term-F.Sub e f) own under parts less = subst (All Placed) (sym (applications_at (Term-F.Sub e.0 f.0))) (two_placed e f parts less)
  layer_placed (Term-F.Neg e) own under parts less = subst (All Placed) (sym (applications_at (Term-F.Neg e.0))) (one_placed e parts less)
  layer_placed (Term-F.Scale q e) own under parts less = subst (All Placed) (sym (applications_at (Term-F.Scale q e.0))) (one_placed e parts less)

  pub term_placed : (t : Term) → HasPlaced t
  term_placed t = by_layers HasPlaced (λ y own under.
      layer_placed y own under (parts_of_sorted_terms_are_sorted scope (bare HasPlaced y) own) (parts_under (bare HasPlaced y) under)) t
