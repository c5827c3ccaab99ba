-- Num terms without applications: over the words of arguments, and over the words that rows are formed over.
use Rattle.std.proofs.Common.{◌≡◌, ◌<◌, ◌≤◌, ℕ, zero, suc, List, [], ◌∷◌, ◌++◌, map, take, length, Bool, true, false, ◌&&◌, ◌||◌, Option, Some, None, refl, sym, ap, subst, ◌∙◌, arith, ◌⊎◌, inl, inr}
use Rattle.std.specs.Prelude.{slice_get, slice_index_or, position, option_and_then, is_some, if◌then◌else◌}
use Rattle.std.specs.Option.{option_or}
use Rattle.std.specs.List.{list_all, list_any}
use Rattle.std.specs.Str.{bytes_eq}
use Rattle.std.proofs.lemmas.Bool.{and_parts, or_cases, or_left, or_right}
use Rattle.std.proofs.lemmas.List.Folds.{list_any-append}
use Rattle.std.proofs.lemmas.List.Quantifiers.{position-Some}
use Rattle.std.proofs.lemmas.Slice.Eq.{bytes_eq-Decides}
use Rattle.hp_tree.specs.Limits.{most_arguments}
use Rattle.hp_tree.specs.declared.term.Term.{Term, Name, fold-roll-Term, map-Term, roll-Term}
use Rattle.hp_tree.specs.declared.term.Term.TheOpen.{Term-F}
use Rattle.hp_tree.specs.declared.term.Term.TheVariants.{rolls-Add, rolls-Name, rolls-Neg, rolls-Number, rolls-Scale, rolls-Sub}
use Rattle.hp_tree.specs.declared.problem.Sort.{Sort}
use Rattle.hp_tree.specs.declared.problem.Sort.TheVariants.{Num, Idx, Ptr}
use Rattle.hp_tree.specs.declared.problem.Var.{Var}
use Rattle.hp_tree.specs.Value.{Word}
use Rattle.hp_terms.specs.declared.forms.Forms.{Forms}
use Rattle.hp_terms.specs.Scope.{Scope}
use Rattle.hp_terms.specs.Sorting.{forms_of, forms_step, has_form, name_forms}
use Rattle.hp_defs.specs.Names.{NameList, sorts, words}
use Rattle.hp_index.proofs.Layers.{Parts, bare, by_layers}
use Rattle.hp_base.specs.Lines.{flat_scope}
use Rattle.hp_local.specs.Rows.{argument_words}
use Rattle.hp_norm.specs.Opening.{is_variable}
use Rattle.hp_norm.specs.Scopes.{clause_scope, variable_sort}
use Rattle.hp_norm.proofs.ClauseScopes.{no_sort}
use Rattle.hp_flatten.specs.declared.application.Application.{Application}
use Rattle.hp_flatten.specs.Applications.{applications, applications_step}
use Rattle.hp_flatten.specs.Flattening.{are_arguments, argument_var, argument_vars, argument_word, flat_step, flat_term, flat_word, is_argument, is_plain_argument, place_of, placed_word}
use Rattle.hp_flatten.specs.Sorts.{is_num}
use Rattle.hp_rules.specs.Rules.{rule_words}
use Rattle.hp_ruled.proofs.Applications.{applications_apply, applications_at}
use Rattle.hp_ruled.proofs.Truth.{named_num, num_scope}

pub nil_parts : {X : Type 0} (xs ys : List X) → xs ++ ys ≡ [] → (xs ≡ []) × (ys ≡ [])
nil_parts [] ys e = (refl, e)
nil_parts (x ∷ xs) ys e = absurd (cc)

abbrev pub IsNumIn : Scope → Term → Type 0
IsNumIn scope t = has_form (forms_of scope t) Num ≡ true

abbrev pub IsFree : Term → Type 0
IsFree t = applications t ≡ []

pub num_name : (o : Option Sort) → has_form (name_forms o) Num ≡ true → o ≡ Some Num
num_name None e = absurd (cc)
num_name (Some Num) e = refl
num_name (Some Idx) e = absurd (cc)
num_name (Some Ptr) e = absurd (cc)

-- ---- layers
-- a layer that is num, in a term that is it
pub at_layer : (scope : Scope) (z : Term-F Term) → has_form (forms_of scope (roll-Term z)) Num ≡ has_form (forms_step scope (map-Term Term Forms (forms_of scope) z)) Num
at_layer scope z = ap (λ f. has_form f Num) (fold-roll-Term Forms (forms_step scope) z)

num_layer : (scope : Scope) (z : Term-F Term) (t : Term) → roll-Term z ≡ t → has_form (forms_step scope (map-Term Term Forms (forms_of scope) z)) Num ≡ true → IsNumIn scope t
num_layer scope z t is h = subst (IsNumIn scope) is (at_layer scope z ∙ h)

free_layer : (z : Term-F Term) (t : Term) → roll-Term z ≡ t → applications_step (roll-Term z) (map-Term Term (List Application) applications z) ≡ [] → IsFree t
free_layer z t is h = subst IsFree is (applications_at z ∙ h)

pub name_num : (scope : Scope) (word : Word) → scope.name word ≡ Some Num → IsNumIn scope (Name word)
name_num scope word e = num_layer scope (Term-F.Name word) (Name word) (rolls-Name word) (ap (λ o. has_form (name_forms o) Num) e)

pub name_free : (word : Word) → IsFree (Name word)
name_free word = free_layer (Term-F.Name word) (Name word) (rolls-Name word) refl

-- ---- another scope
module _ (one other : Scope) (names : (word : Word) → one.name word ≡ Some Num → other.name word ≡ Some Num) where
  abbrev Stays : Term → Type 0
  Stays t = IsNumIn one t → IsFree t → IsNumIn other t

  stays_step : (y : Term-F (Parts Stays)) → has_form (forms_step one (map-Term Term Forms (forms_of one) (bare Stays y))) Num ≡ true
      → applications_step (roll-Term (bare Stays y)) (map-Term Term (List Application) applications (bare Stays y)) ≡ []
      → has_form (forms_step other (map-Term Term Forms (forms_of other) (bare Stays y))) Num ≡ true
  stays_step (Term-F.Number q) h f = refl
  stays_step Term-F.Null h f = absurd (cc)
  stays_step (Term-F.Name w) h f = ap (λ o. has_form (name_forms o) Num) (names w (num_name (one.name w) h))
  stays_step (Term-F.Apply func args) h f =
      absurd (let ts : List Term = map (λ (e : Parts Stays). e.0) args in let none = sym (applications_apply func ts) ∙ applications_at (Term-F.Apply func ts) ∙ f in cc)
  stays_step (Term-F.Add a b) h f =
      let p = and_parts (forms_of one a.0).num (forms_of one b.0).num h in
      let q = nil_parts (applications a.0) (applications b.0) f in
      (λ i. a.1 p.0 q.0 i && b.1 p.1 q.1 i)
  stays_step (Term-F.Sub a b) h f =
      let p = and_parts (forms_of one a.0).num (forms_of one b.0).num h in
      let q = nil_parts (applications a.0) (applications b.0) f in
      (λ i. a.1 p.0 q.0 i && b.1 p.1 q.1 i)
  stays_step (Term-F.Neg a) h f = a.1 h f
  stays_step (Term-F.Scale q a) h f = a.1 h f

  stays_layer : (y : Term-F (Parts Stays)) → Stays (roll-Term (bare Stays y))
  stays_layer y h f = at_layer other (bare Stays y) ∙ stays_step y (sym (at_layer one (bare Stays y)) ∙ h) (sym (applications_at (bare Stays y)) ∙ f)

  pub num_stays : (t : Term) → IsNumIn one t → IsFree t → IsNumIn other t
  num_stays t = by_layers Stays stays_layer t

-- ---- over the words of arguments
module _ (app : Application) (vars : List Var) (one other : Scope) (names : (word : Word) → one.name word ≡ Some Num → other.name (flat_word vars app.args word) ≡ Some Num) where
  abbrev IsFlatNum : Term → Type 0
  IsFlatNum t = IsNumIn other t × IsFree t

  abbrev Flattens : Term → Type 0
  Flattens t = IsNumIn one t → IsFree t → IsFlatNum (flat_term app vars t)

  flattens_step : (y : Term-F (Parts Flattens)) → has_form (forms_step one (map-Term Term Forms (forms_of one) (bare Flattens y))) Num ≡ true
      → applications_step (roll-Term (bare Flattens y)) (map-Term Term (List Application) applications (bare Flattens y)) ≡ []
      → IsFlatNum (flat_step app vars (map-Term Term Term (flat_term app vars) (bare Flattens y)))
  flattens_step (Term-F.Number q) h f = (num_layer other (Term-F.Number q) _ (rolls-Number q) refl, free_layer (Term-F.Number q) _ (rolls-Number q) refl)
  flattens_step Term-F.Null h f = absurd (cc)
  flattens_step (Term-F.Name w) h f =
      (name_num other (flat_word vars app.args w) (names w (num_name (one.name w) h)), name_free (flat_word vars app.args w))
  flattens_step (Term-F.Apply func args) h f =
      absurd (let ts : List Term = map (λ (e : Parts Flattens). e.0) args in let none = sym (applications_apply func ts) ∙ applications_at (Term-F.Apply func ts) ∙ f in cc)
  flattens_step (Term-F.Add a b) h f =
      let p = and_parts (forms_of one a.0).num (forms_of one b.0).num h in
      let q = nil_parts (applications a.0) (applications b.0) f in
      let x = a.1 p.0 q.0 in
      let y = b.1 p.1 q.1 in
      let z : Term-F Term = Term-F.Add (flat_term app vars a.0) (flat_term app vars b.0) in
      let is = rolls-Add (flat_term app vars a.0) (flat_term app vars b.0) in
      (num_layer other z _ is (λ i. x.0 i && y.0 i), free_layer z _ is (λ i. x.1 i ++ y.1 i))
  flattens_step (Term-F.Sub a b) h f =
      let p = and_parts (forms_of one a.0).num (forms_of one b.0).num h in
      let q = nil_parts (applications a.0) (applications b.0) f in
      let x = a.1 p.0 q.0 in
      let y = b.1 p.1 q.1 in
      let z : Term-F Term = Term-F.Sub (flat_term app vars a.0) (flat_term app vars b.0) in
      let is = rolls-Sub (flat_term app vars a.0) (flat_term app vars b.0) in
      (num_layer other z _ is (λ i. x.0 i && y.0 i), free_layer z _ is (λ i. x.1 i ++ y.1 i))
  flattens_step (Term-F.Neg a) h f =
      let x = a.1 h f in
      (num_layer other (Term-F.Neg (flat_term app vars a.0)) _ (rolls-Neg (flat_term app vars a.0)) x.0, free_layer (Term-F.Neg (flat_term app vars a.0)) _ (rolls-Neg (flat_term app vars a.0)) x.1)
  flattens_step (Term-F.Scale q a) h f =
      let x = a.1 h f in
      (num_layer other (Term-F.Scale q (flat_term app vars a.0)) _ (rolls-Scale q (flat_term app vars a.0)) x.0, free_layer (Term-F.Scale q (flat_term app vars a.0)) _ (rolls-Scale q (flat_term app vars a.0)) x.1)

  flattens_layer : (y : Term-F (Parts Flattens)) → Flattens (roll-Term (bare Flattens y))
  flattens_layer y h f =
      subst IsFlatNum (sym (fold-roll-Term Term (flat_step app vars) (bare Flattens y)))
      (flattens_step y (sym (at_layer one (bare Flattens y)) ∙ h) (sym (applications_at (bare Flattens y)) ∙ f))

  pub flat_num : (t : Term) → IsNumIn one t → IsFree t → IsNumIn other (flat_term app vars t) × IsFree (flat_term app vars t)
  flat_num t = by_layers Flattens flattens_layer t

-- ---- the words of arguments
-- each of them is a num
only_num : (ws : List Word) (word : Word) → (variable_sort (map argument_var ws) word ≡ None) ⊎ (variable_sort (map argument_var ws) word ≡ Some Num)
only_num [] word = inl refl
only_num (w ∷ ws) word = by (bytes_eq w word) (only_num ws word)
  where
    by : (b : Bool) → (variable_sort (map argument_var ws) word ≡ None) ⊎ (variable_sort (map argument_var ws) word ≡ Some Num)
        → ((if b then Some Num else variable_sort (map argument_var ws) word) ≡ None) ⊎ ((if b then Some Num else variable_sort (map argument_var ws) word) ≡ Some Num)
    by true h = inr refl
    by false h = h

same_bytes_eq : (w : Word) → bytes_eq w w ≡ true
same_bytes_eq w = (bytes_eq-Decides w w).1 refl

word_num : (ws : List Word) (n k : ℕ) → k < n → k < length ws → variable_sort (map argument_var (take n ws)) (slice_index_or ws k []) ≡ Some Num
word_num [] n k h l = absurd (omega arith)
word_num (w ∷ ws) zero k h l = absurd (omega arith)
word_num (w ∷ ws) (suc n) zero h l = ap (λ b. if b then Some Num else variable_sort (map argument_var (take n ws)) w) (same_bytes_eq w)
word_num (w ∷ ws) (suc n) (suc k) h l = by (bytes_eq w (slice_index_or ws k [])) (word_num ws n k (omega arith) (omega arith))
  where
    by : (b : Bool) → variable_sort (map argument_var (take n ws)) (slice_index_or ws k []) ≡ Some Num → (if b then Some Num else variable_sort (map argument_var (take n ws)) (slice_index_or ws k [])) ≡ Some Num
    by true h = refl
    by false h = h

among_words : (ws : List Word) (n : ℕ) (word : Word) (s : Sort) → variable_sort (map argument_var (take n ws)) word ≡ Some s → list_any (bytes_eq word) ws ≡ true
among_words [] zero word s e = absurd (cc)
among_words [] (suc n) word s e = absurd (cc)
among_words (w ∷ ws) zero word s e = absurd (cc)
among_words (w ∷ ws) (suc n) word s e = by (bytes_eq w word) refl e (among_words ws n word s)
  where
    by : (b : Bool) → bytes_eq w word ≡ b → (if b then Some Num else variable_sort (map argument_var (take n ws)) word) ≡ Some s
        → (variable_sort (map argument_var (take n ws)) word ≡ Some s → list_any (bytes_eq word) ws ≡ true) → list_any (bytes_eq word) (w ∷ ws) ≡ true
    by true t e rest = or_left (bytes_eq word w) (list_any (bytes_eq word) ws) ((bytes_eq-Decides word w).1 (sym ((bytes_eq-Decides w word).0 t)))
    by false t e rest = or_right (bytes_eq word w) (list_any (bytes_eq word) ws) (rest e)

-- ---- scopes of clauses
passes_at : {X : Type 0} (p : X → Bool) (xs : List X) (k : ℕ) (d : X) → k < length xs → p (slice_index_or xs k d) ≡ true → list_any p xs ≡ true
passes_at p [] k d h e = absurd (omega arith)
passes_at p (x ∷ xs) zero d h e = or_left (p x) (list_any p xs) e
passes_at p (x ∷ xs) (suc k) d h e = or_right (p x) (list_any p xs) (passes_at p xs k d (omega arith) e)

module _ (names : NameList) where
  among_names : (word : Word) → (flat_scope names).name word ≡ Some Num → list_any (bytes_eq word) (words names) ≡ true
  among_names word = by (position (bytes_eq word) (words names)) refl
    where
      by : (o : Option ℕ) → position (bytes_eq word) (words names) ≡ o → option_and_then (λ at. slice_get (sorts names) at) o ≡ Some Num → list_any (bytes_eq word) (words names) ≡ true
      by None f e = absurd (cc)
      by (Some k) f e = let found = position-Some (bytes_eq word) (words names) k [] f in passes_at (bytes_eq word) (words names) k [] found.0 found.1

  abbrev pub flat_names : ℕ → Scope
  flat_names count = clause_scope names (argument_vars count)

  -- a num over names and words of arguments is one over the words of rows
  pub rule_name : (count : ℕ) (word : Word) → (flat_names count).name word ≡ Some Num → (num_scope (rule_words names)).name word ≡ Some Num
  rule_name count word e = named_num (rule_words names) word (list_any-append (bytes_eq word) (words names) argument_words ∙ by (variable_sort (argument_vars count) word) refl e)
    where
      by : (o : Option Sort) → variable_sort (argument_vars count) word ≡ o → option_or o ((flat_scope names).name word) ≡ Some Num → (list_any (bytes_eq word) (words names) || list_any (bytes_eq word) argument_words) ≡ true
      by None f e = or_left (list_any (bytes_eq word) (words names)) (list_any (bytes_eq word) argument_words) (among_names word e)
      by (Some s) f e = or_right (list_any (bytes_eq word) (words names)) (list_any (bytes_eq word) argument_words) (among_words argument_words count word s f)

  pub argument_num : (count k : ℕ) → k < count → count ≤ most_arguments → (flat_names count).name (argument_word k) ≡ Some Num
  argument_num count k h few = ap (λ o. option_or o ((flat_scope names).name (argument_word k))) (word_num argument_words count k h (omega (arith, h, few)))

  -- a num over the variables of a clause becomes one over the words of its arguments
  variable_placed : (args : List Term) (vars : List Var) (word : Word) → list_all (is_argument args) vars ≡ true → is_variable vars word ≡ true → is_some (place_of args word) ≡ true
  variable_placed args [] word all e = absurd (cc)
  variable_placed args (v ∷ vars) word all e =
      let both = and_parts (is_argument args v) (list_all (is_argument args) vars) all in
      elim (or_cases (bytes_eq v.name word) (is_variable vars word) e) [
        | inl t ↦ subst (λ w. is_some (place_of args w) ≡ true) ((bytes_eq-Decides v.name word).0 t) (and_parts (is_num v.sort) (is_some (place_of args v.name)) both.0).1
        | inr t ↦ variable_placed args vars word both.1 t
      ]

  pub flat_name : (vars : List Var) (args : List Term) → are_arguments vars args ≡ true → length args ≤ most_arguments → (word : Word) → (clause_scope names vars).name word ≡ Some Num
      → (flat_names (length args)).name (flat_word vars args word) ≡ Some Num
  flat_name vars args are few word e = by (is_variable vars word) refl
    where
      placed : (o : Option ℕ) → place_of args word ≡ o → is_some o ≡ true → (flat_names (length args)).name (placed_word word o) ≡ Some Num
      placed None p t = absurd (cc)
      placed (Some k) p t = argument_num (length args) k (position-Some _ args k (Name []) p).0 few

      kept : (clause_scope names vars).name word ≡ Some Num → is_variable vars word ≡ false → (flat_names (length args)).name word ≡ Some Num
      kept e t =
          let alone : (flat_scope names).name word ≡ Some Num = sym (ap (λ o. option_or o ((flat_scope names).name word)) (no_sort vars word t)) ∙ e in
          elim (only_num (take (length args) argument_words) word) [
            | inl n ↦ ap (λ o. option_or o ((flat_scope names).name word)) n ∙ alone
            | inr s ↦ ap (λ o. option_or o ((flat_scope names).name word)) s
          ]

      by : (b : Bool) → is_variable vars word ≡ b → (flat_names (length args)).name (flat_word vars args word) ≡ Some Num
      by true t =
          ap (λ (b : Bool). (flat_names (length args)).name (if b then placed_word word (place_of args word) else word)) t
          ∙ placed (place_of args word) refl (variable_placed args vars word (and_parts (list_all (is_plain_argument vars) args) (list_all (is_argument args) vars) are).1 t)
      by false t = ap (λ (b : Bool). (flat_names (length args)).name (if b then placed_word word (place_of args word) else word)) t ∙ kept e t
