-- Terms in which variables of sort idx are arguments of arrays alone, and terms without variables.
use Rattle.std.proofs.Common.{◌≡◌, ◌∙◌, List, [], ◌∷◌, map, Bool, true, false, ◌&&◌, ◌||◌, not, Option, Some, refl, sym, ap}
use Rattle.std.specs.Prelude.{if◌then◌else◌}
use Rattle.std.specs.List.{All, list_all, list_any}
use Rattle.std.specs.Option.{option_or}
use Rattle.std.specs.Str.{bytes_eq}
use Rattle.std.proofs.lemmas.Bool.{and_from, and_parts, or_parts}
use Rattle.std.proofs.lemmas.List.Elements.{All-head, All-tail}
use Rattle.hp_tree.specs.declared.term.Term.{Term, fold-roll-Term, map-Term, out-Term, out-roll-Term, roll-Term}
use Rattle.hp_tree.specs.declared.term.Term.TheOpen.{Term-F}
use Rattle.hp_tree.specs.declared.problem.Sort.{Sort}
use Rattle.hp_tree.specs.declared.problem.Sort.TheVariants.{Num, Idx}
use Rattle.hp_tree.specs.declared.problem.Var.{Var}
use Rattle.hp_tree.specs.Value.{Word}
use Rattle.hp_terms.specs.declared.forms.Forms.{Forms}
use Rattle.hp_terms.specs.Scope.{Scope}
use Rattle.hp_terms.specs.Sorting.{forms_of, forms_step, name_forms}
use Rattle.hp_index.proofs.Layers.{Parts, bare, by_layers}
use Rattle.hp_index.proofs.Named.{named_sort}
use Rattle.hp_local.specs.Arrays.{Look, look, look_step, one_variable}
use Rattle.hp_defs.specs.Names.{NameList}
use Rattle.hp_base.specs.Lines.{flat_scope}
use Rattle.hp_norm.specs.Opening.{is_variable, mentions, mentions_step}
use Rattle.hp_norm.specs.Scopes.{clause_scope, variable_sort}
use Rattle.hp_flatten.specs.declared.application.Application.{Application}
use Rattle.hp_flatten.specs.Applications.{applications}
use Rattle.hp_index_set.specs.Rules.{is_read, is_variable_term}
use Rattle.hp_arrays.proofs.Applied.{applied_terms}
use Rattle.hp_arrays.proofs.ClauseWords.{AreIdx}

-- ---- variables
-- a variable that is an index is no number
index_is_no_number : (vars : List Var) (word : Word) (o : Option Sort) → AreIdx vars → is_variable vars word ≡ true → option_or (variable_sort vars word) o ≡ Some Num → ⊥
index_is_no_number [] word o idx is e = absurd (cc)
index_is_no_number (v ∷ vars) word o idx is e =
    by (λ i h. index_is_no_number vars word o (All-tail (λ (u : Var). u.sort ≡ Idx) v vars idx) i h) (bytes_eq v.name word) is e
  where
    by : (is_variable vars word ≡ true → option_or (variable_sort vars word) o ≡ Some Num → ⊥) → (b : Bool) → (b || is_variable vars word) ≡ true
        → option_or (if b then Some v.sort else variable_sort vars word) o ≡ Some Num → ⊥
    by rest true i h = (let idx_is = All-head (λ (u : Var). u.sort ≡ Idx) v vars idx in let no : Some Idx ≡ Some Num = sym (ap Some idx_is) ∙ h in cc)
    by rest false i h = rest i h

-- ---- what the look of terms says
module _ (own variable : Word → Bool) where
  abbrev seen : Term → Look
  seen = look own variable

  seen_roll : (y : Term-F Term) → seen (roll-Term y) ≡ look_step own variable (map-Term Term Look seen y)
  seen_roll y = fold-roll-Term Look (look_step own variable) y

  name_seen : (word : Word) → (seen (roll-Term (Term-F.Name word))).variable ≡ variable word
  name_seen word = ap (λ (a : Look). a.variable) (seen_roll (Term-F.Name word))

-- one argument that is a variable
module _ (own : Word → Bool) (vars : List Var) where
  abbrev Seen : Term → Look
  Seen = look own (is_variable vars)

  abbrev IsSeen : Term → Type 0
  IsSeen t = is_variable_term vars (out-Term t) ≡ true → (Seen t).variable ≡ true

  variable_layer : (z : Term-F Term) → is_variable_term vars z ≡ true → (Seen (roll-Term z)).variable ≡ true
  variable_layer (Term-F.Name word) h = name_seen own (is_variable vars) word ∙ h
  variable_layer (Term-F.Number q) h = absurd (cc)
  variable_layer Term-F.Null h = absurd (cc)
  variable_layer (Term-F.Apply func args) h = absurd (cc)
  variable_layer (Term-F.Add a b) h = absurd (cc)
  variable_layer (Term-F.Sub a b) h = absurd (cc)
  variable_layer (Term-F.Neg a) h = absurd (cc)
  variable_layer (Term-F.Scale q a) h = absurd (cc)

  variable_seen : (t : Term) → IsSeen t
  variable_seen t = by_layers IsSeen (λ y e. variable_layer (bare IsSeen y) (ap (is_variable_term vars) (sym (out-roll-Term (bare IsSeen y))) ∙ e)) t

  read_seen : (ts : List Term) → is_read vars ts ≡ true → one_variable (map Seen ts) ≡ true
  read_seen [] e = absurd (cc)
  read_seen (t ∷ []) e = variable_seen t e
  read_seen (t ∷ s ∷ ts) e = absurd (cc)

  -- an application of an array at a variable
  pub record IsReadOf (a : Application) : Type 0 where
    pub function : own a.func ≡ true
    pub read : is_read vars a.args ≡ true

  or_true : (a b c : Bool) → a ≡ true → b ≡ true → ((a && b) || c) ≡ true
  or_true a b c p q = rw p (rw q refl)

  -- ---- terms of numbers
  module _ (names : NameList) (idx : AreIdx vars) where
    abbrev scope : Scope
    scope = clause_scope names vars

    abbrev IsFineNum : Term → Type 0
    IsFineNum t = (forms_of scope t).num ≡ true → (Seen t).fine ≡ true

    fine_by : (y : Term-F Term) → ((forms_step scope (map-Term Term Forms (forms_of scope) y)).num ≡ true → (look_step own (is_variable vars) (map-Term Term Look Seen y)).fine ≡ true) → IsFineNum (roll-Term y)
    fine_by y h e =
        ap (λ (a : Look). a.fine) (seen_roll own (is_variable vars) y) ∙ h (sym (ap (λ (f : Forms). f.num) (fold-roll-Term Forms (forms_step scope) y)) ∙ e)

    name_fine : (word : Word) → (name_forms (scope.name word)).num ≡ true → not (is_variable vars word) ≡ true
    name_fine word e = by (is_variable vars word) refl
      where
        by : (b : Bool) → is_variable vars word ≡ b → not b ≡ true
        by false is = refl
        by true is = absurd (index_is_no_number vars word ((flat_scope names).name word) idx is (named_sort (scope.name word) Num e))

    pub num_fine : (t : Term) → All IsReadOf (applications t) → IsFineNum t
    num_fine t = applied_terms IsReadOf IsFineNum (record {
      number = λ q. fine_by (Term-F.Number q) (λ e. refl);
      null = fine_by Term-F.Null (λ e. refl);
      name = λ word. fine_by (Term-F.Name word) (name_fine word);
      apply = λ func args h. fine_by (Term-F.Apply func args) (λ e. or_true (own func) (one_variable (map Seen args)) (list_all (λ (a : Look). a.fine) (map Seen args)) h.function (read_seen args h.read));
      add = λ a b h k. fine_by (Term-F.Add a b) (λ e. let p = and_parts (forms_of scope a).num (forms_of scope b).num e in and_from (Seen a).fine (Seen b).fine (h p.0) (k p.1));
      subtract = λ a b h k. fine_by (Term-F.Sub a b) (λ e. let p = and_parts (forms_of scope a).num (forms_of scope b).num e in and_from (Seen a).fine (Seen b).fine (h p.0) (k p.1));
      neg = λ a h. fine_by (Term-F.Neg a) h;
      scale = λ q a h. fine_by (Term-F.Scale q a) h;
    }) t

  -- ---- terms without variables
  abbrev IsFineBare : Term → Type 0
  IsFineBare t = mentions vars t ≡ false → (Seen t).fine ≡ true

  bare_by : (y : Term-F Term) → (mentions_step vars (map-Term Term Bool (mentions vars) y) ≡ false → (look_step own (is_variable vars) (map-Term Term Look Seen y)).fine ≡ true) → IsFineBare (roll-Term y)
  bare_by y h e = ap (λ (a : Look). a.fine) (seen_roll own (is_variable vars) y) ∙ h (sym (fold-roll-Term Bool (mentions_step vars) y) ∙ e)

  abbrev terms : List (Parts IsFineBare) → List Term
  terms args = map (λ (e : Parts IsFineBare). e.0) args

  all_fine : (args : List (Parts IsFineBare)) → list_any (λ b. b) (map (mentions vars) (terms args)) ≡ false → list_all (λ (a : Look). a.fine) (map Seen (terms args)) ≡ true
  all_fine [] e = refl
  all_fine (a ∷ args) e =
      let p = or_parts (mentions vars a.0) (list_any (λ b. b) (map (mentions vars) (terms args))) e in
      and_from (Seen a.0).fine (list_all (λ (x : Look). x.fine) (map Seen (terms args))) (a.1 p.0) (all_fine args p.1)

  or_second : (a b : Bool) → b ≡ true → (a || b) ≡ true
  or_second true b e = refl
  or_second false b e = e

  bare_layer : (y : Term-F (Parts IsFineBare)) → IsFineBare (roll-Term (bare IsFineBare y))
  bare_layer (Term-F.Number q) = bare_by (Term-F.Number q) (λ e. refl)
  bare_layer Term-F.Null = bare_by Term-F.Null (λ e. refl)
  bare_layer (Term-F.Name word) = bare_by (Term-F.Name word) (λ e. ap not e)
  bare_layer (Term-F.Apply func args) =
      bare_by (Term-F.Apply func (terms args)) (λ e. or_second (own func && one_variable (map Seen (terms args))) (list_all (λ (a : Look). a.fine) (map Seen (terms args))) (all_fine args e))
  bare_layer (Term-F.Add a b) =
      bare_by (Term-F.Add a.0 b.0) (λ e. let p = or_parts (mentions vars a.0) (mentions vars b.0) e in and_from (Seen a.0).fine (Seen b.0).fine (a.1 p.0) (b.1 p.1))
  bare_layer (Term-F.Sub a b) =
      bare_by (Term-F.Sub a.0 b.0) (λ e. let p = or_parts (mentions vars a.0) (mentions vars b.0) e in and_from (Seen a.0).fine (Seen b.0).fine (a.1 p.0) (b.1 p.1))
  bare_layer (Term-F.Neg a) = bare_by (Term-F.Neg a.0) a.1
  bare_layer (Term-F.Scale q a) = bare_by (Term-F.Scale q a.0) a.1

  pub bare_fine : (t : Term) → mentions vars t ≡ false → (Seen t).fine ≡ true
  bare_fine t = by_layers IsFineBare bare_layer t
