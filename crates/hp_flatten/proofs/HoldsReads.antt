-- The words of arguments have the values of the arguments exactly where the equalities of a flattened clause are true.
use Rattle.std.proofs.Common.{◌≡◌, ◌&&◌, ◌||◌, ◌+◌, ◌<◌, ◌≤◌, ℕ, zero, suc, Bool, true, false, List, [], ◌∷◌, ◌++◌, map, length, get_or, Option, Some, None, refl, sym, ap, subst, ◌∙◌, arith}
use Rattle.std.specs.Prelude.{if◌then◌else◌, is_some}
use Rattle.std.specs.List.{All, list_all}
use Rattle.std.specs.Str.{bytes_eq}
use Rattle.std.proofs.lemmas.Bool.{and_from, and_parts}
use Rattle.std.proofs.lemmas.List.Elements.{All-head, All-tail}
use Rattle.std.proofs.lemmas.List.Quantifiers.{position-Some}
use Rattle.std.proofs.lemmas.Slice.Eq.{bytes_eq-Decides}
use Rattle.hp_math.specs.Rational.{ℚ, eq_ℚ}
use Rattle.hp_tree.specs.declared.term.Term.{Term, Name, Null, out-Term}
use Rattle.hp_tree.specs.declared.term.Term.TheVariants.{rolls-Name}
use Rattle.hp_tree.specs.declared.problem.Atom.{Atom}
use Rattle.hp_tree.specs.declared.problem.Cmp.TheVariants.{Eq}
use Rattle.hp_tree.specs.declared.problem.Sort.{Sort}
use Rattle.hp_tree.specs.declared.problem.Var.{Var}
use Rattle.hp_tree.specs.Universal.{AreSorted, assign}
use Rattle.hp_tree.specs.Value.{Environment, Functions, Word, all_true, value}
use Rattle.hp_tree.proofs.Compares.{eq_ℚ-true, eq_ℚ-from}
use Rattle.hp_terms.specs.Scope.{Scope}
use Rattle.hp_terms.specs.Laws.{HasSort}
use Rattle.hp_local.proofs.Terms.{name_value}
use Rattle.hp_norm.specs.Opening.{is_variable}
use Rattle.hp_norm.proofs.TermsNamed.{word_has_sort}
use Rattle.hp_flatten.specs.declared.application.Application.{Application}
use Rattle.hp_flatten.specs.Flattening.{argument_names, argument_vars, argument_word, equalities_from, equality, flat_term, flat_word, is_argument, is_first, is_first_of, is_named, is_place, is_word, name_in, place_of, placed_word}
use Rattle.hp_flatten.specs.Sorts.{is_num}
use Rattle.hp_flatten.proofs.HoldsTerms.{name_alone}

-- ---- what words of arguments have
-- the words from a place on have the values of these terms
abbrev pub AreRead : Environment → Environment → Functions → ℕ → List Term → Type 0
AreRead inner outer functions k [] = Unit {0}
AreRead inner outer functions k (term ∷ terms) = (inner (argument_word k) ≡ value outer functions term) × AreRead inner outer functions (suc k) terms

-- where the values of the arguments are assigned to their words
module _ (outer env : Environment) (functions : Functions) where
  abbrev pub argument_values : List Term → List ℚ
  argument_values args = map (value outer functions) args

  pub assigned_read : (args : List Term) → length args ≤ 4 → AreRead (assign (argument_vars (length args)) (argument_values args) env) outer functions 0 args
  assigned_read [] few = tt
  assigned_read (a ∷ []) few = (refl, tt)
  assigned_read (a ∷ b ∷ []) few = (refl, (refl, tt))
  assigned_read (a ∷ b ∷ c ∷ []) few = (refl, (refl, (refl, tt)))
  assigned_read (a ∷ b ∷ c ∷ d ∷ []) few = (refl, (refl, (refl, (refl, tt))))
  assigned_read (a ∷ b ∷ c ∷ d ∷ e ∷ args) few = absurd (omega arith)

  pub assigned_sorted : (size : ℕ) (args : List Term) → length args ≤ 4 → AreSorted size (argument_vars (length args)) (argument_values args)
  assigned_sorted size [] few = tt
  assigned_sorted size (a ∷ []) few = (refl, tt)
  assigned_sorted size (a ∷ b ∷ []) few = (refl, (refl, tt))
  assigned_sorted size (a ∷ b ∷ c ∷ []) few = (refl, (refl, (refl, tt)))
  assigned_sorted size (a ∷ b ∷ c ∷ d ∷ []) few = (refl, (refl, (refl, (refl, tt))))
  assigned_sorted size (a ∷ b ∷ c ∷ d ∷ e ∷ args) few = absurd (omega arith)

-- ---- places
named_is : (word : Word) (t : Term) → is_named word t ≡ true → t ≡ Name word
named_is word t = by (name_in (out-Term t)) refl
  where
    by : (o : Option Word) → name_in (out-Term t) ≡ o → is_word word o ≡ true → t ≡ Name word
    by None e h = absurd (cc)
    by (Some other) e h = name_alone t word (e ∙ ap Some (sym ((bytes_eq-Decides word other).0 h)))

place_is : (k : ℕ) (o : Option ℕ) → is_place k o ≡ true → o ≡ Some k
place_is k None e = absurd (cc)
place_is k (Some j) e = grind (arith)

module _ (inner outer : Environment) (functions : Functions) where
  read_at : (k j : ℕ) (terms : List Term) (d : Term) → AreRead inner outer functions k terms → j < length terms → inner (argument_word (k + j)) ≡ value outer functions (get_or terms j d)
  read_at k j [] d read l = absurd (omega arith)
  read_at k zero (t ∷ terms) d read l = let same : k + zero ≡ k = omega arith in ap (λ n. inner (argument_word n)) same ∙ read.0
  read_at k (suc j) (t ∷ terms) d read l =
      let same : k + suc j ≡ suc k + j = omega arith in
      ap (λ n. inner (argument_word n)) same ∙ read_at (suc k) j terms d read.1 (omega arith)

  -- the word of the first place of a name has its value
  pub placed_read : (args : List Term) (word : Word) (j : ℕ) → AreRead inner outer functions 0 args → place_of args word ≡ Some j → inner (argument_word j) ≡ outer word
  placed_read args word j read e =
      let at = position-Some (is_named word) args j Null e in
      let same : j ≡ 0 + j = omega arith in
      ap (λ n. inner (argument_word n)) same ∙ read_at 0 j args Null read at.0 ∙ ap (value outer functions) (named_is word (get_or args j Null) at.1) ∙ name_value outer functions word

  -- the function at the words has the value that it has at the arguments
  pub names_read : (args : List Term) → length args ≤ 4 → AreRead inner outer functions 0 args → map (value inner functions) (argument_names (length args)) ≡ map (value outer functions) args
  names_read [] few read = refl
  names_read (a ∷ []) few read = λ i. (name_value inner functions (argument_word 0) ∙ read.0) i ∷ []
  names_read (a ∷ b ∷ []) few read = λ i. (name_value inner functions (argument_word 0) ∙ read.0) i ∷ (name_value inner functions (argument_word 1) ∙ read.1.0) i ∷ []
  names_read (a ∷ b ∷ c ∷ []) few read = λ i.
      (name_value inner functions (argument_word 0) ∙ read.0) i ∷ (name_value inner functions (argument_word 1) ∙ read.1.0) i ∷ (name_value inner functions (argument_word 2) ∙ read.1.1.0) i ∷ []
  names_read (a ∷ b ∷ c ∷ d ∷ []) few read = λ i.
      (name_value inner functions (argument_word 0) ∙ read.0) i ∷ (name_value inner functions (argument_word 1) ∙ read.1.0) i ∷ (name_value inner functions (argument_word 2) ∙ read.1.1.0) i
      ∷ (name_value inner functions (argument_word 3) ∙ read.1.1.1.0) i ∷ []
  names_read (a ∷ b ∷ c ∷ d ∷ e ∷ args) few read = absurd (omega arith)

-- ---- equalities
module _ (inner : Environment) (functions : Functions) where
  pub all_joined : (xs ys : List Atom) → all_true inner functions (xs ++ ys) ≡ (all_true inner functions xs && all_true inner functions ys)
  all_joined [] ys = refl
  all_joined (x ∷ xs) ys = grind (arith, all_joined xs ys)

-- a sorted term has the value that its flattened term has
abbrev pub IsSame : Scope → Application → List Var → Environment → Environment → Functions → Term → Type 0
IsSame scope a vars inner outer functions t = HasSort scope t × (value inner functions (flat_term a vars t) ≡ value outer functions t)

module _ (scope : Scope) (a : Application) (vars : List Var) (inner outer : Environment) (functions : Functions)
    (words_same : (word : Word) (sort : Sort) → scope.name word ≡ Some sort → inner (flat_word vars a.args word) ≡ outer word) where
  abbrev Is : Term → Type 0
  Is = IsSame scope a vars inner outer functions

  first_read : (k : ℕ) (t : Term) → HasSort scope t → is_first vars a.args k t ≡ true → inner (argument_word k) ≡ value outer functions t
  first_read k t sorted = by (name_in (out-Term t)) refl
    where
      by : (o : Option Word) → name_in (out-Term t) ≡ o → is_first_of vars a.args k o ≡ true → inner (argument_word k) ≡ value outer functions t
      by None e h = absurd (cc)
      by (Some word) e h =
          let parts = and_parts (is_variable vars word) (is_place k (place_of a.args word)) h in
          let alone = name_alone t word e in
          let s = word_has_sort scope word (subst (HasSort scope) (alone ∙ sym (rolls-Name word)) sorted) in
          let place = place_is k (place_of a.args word) parts.1 in
          let flat : flat_word vars a.args word ≡ argument_word k =
          (λ i. if parts.0 i then placed_word word (place i) else word) in
          ap inner (sym flat) ∙ words_same word s.0 s.1 ∙ sym (ap (value outer functions) alone ∙ name_value outer functions word)

  -- where they are true
  one_read : (k : ℕ) (t : Term) → Is t → all_true inner functions (equality a vars k t) ≡ true → inner (argument_word k) ≡ value outer functions t
  one_read k t same = by (is_first vars a.args k t) refl
    where
      by : (b : Bool) → is_first vars a.args k t ≡ b → all_true inner functions (if b then [] else record { left = Name (argument_word k); cmp = Eq; right = flat_term a vars t } ∷ []) ≡ true
          → inner (argument_word k) ≡ value outer functions t
      by true e h = first_read k t same.0 e
      by false e h =
          let parts = and_parts (eq_ℚ (value inner functions (Name (argument_word k))) (value inner functions (flat_term a vars t))) true h in
          sym (name_value inner functions (argument_word k)) ∙ eq_ℚ-true (value inner functions (Name (argument_word k))) (value inner functions (flat_term a vars t)) parts.0 ∙ same.1

  pub equal_read : (k : ℕ) (terms : List Term) → All Is terms → all_true inner functions (equalities_from a vars k terms) ≡ true → AreRead inner outer functions k terms
  equal_read k [] same e = tt
  equal_read k (t ∷ terms) same e =
      let parts = and_parts (all_true inner functions (equality a vars k t)) (all_true inner functions (equalities_from a vars (suc k) terms))
      (sym (all_joined inner functions (equality a vars k t) (equalities_from a vars (suc k) terms)) ∙ e) in
      (one_read k t (All-head Is t terms same) parts.0, equal_read (suc k) terms (All-tail Is t terms same) parts.1)

  -- and they are true there
  one_equal : (k : ℕ) (t : Term) → Is t → inner (argument_word k) ≡ value outer functions t → all_true inner functions (equality a vars k t) ≡ true
  one_equal k t same read = by (is_first vars a.args k t)
    where
      by : (b : Bool) → all_true inner functions (if b then [] else record { left = Name (argument_word k); cmp = Eq; right = flat_term a vars t } ∷ []) ≡ true
      by true = refl
      by false =
          and_from (eq_ℚ (value inner functions (Name (argument_word k))) (value inner functions (flat_term a vars t))) true
          (eq_ℚ-from (value inner functions (Name (argument_word k))) (value inner functions (flat_term a vars t)) (name_value inner functions (argument_word k) ∙ read ∙ sym same.1)) refl

  pub read_equal : (k : ℕ) (terms : List Term) → All Is terms → AreRead inner outer functions k terms → all_true inner functions (equalities_from a vars k terms) ≡ true
  read_equal k [] same read = refl
  read_equal k (t ∷ terms) same read =
      all_joined inner functions (equality a vars k t) (equalities_from a vars (suc k) terms)
      ∙ and_from (all_true inner functions (equality a vars k t)) (all_true inner functions (equalities_from a vars (suc k) terms))
      (one_equal k t (All-head Is t terms same) read.0) (read_equal (suc k) terms (All-tail Is t terms same) read.1)

-- ---- variables
-- each variable has a place among the arguments
pub variable_placed : (args : List Term) (vars : List Var) (word : Word) → list_all (is_argument args) vars ≡ true → is_variable vars word ≡ true → (j : ℕ) × (place_of args word ≡ Some j)
variable_placed args [] word all e = absurd (cc)
variable_placed args (v ∷ vars) word all e = by (bytes_eq v.name word) refl e (variable_placed args vars word parts.1)
  where
    parts : (is_argument args v ≡ true) × (list_all (is_argument args) vars ≡ true)
    parts = and_parts (is_argument args v) (list_all (is_argument args) vars) all

    found : (o : Option ℕ) → is_some o ≡ true → (j : ℕ) × (o ≡ Some j)
    found None h = absurd (cc)
    found (Some j) h = (j, refl)

    by : (b : Bool) → bytes_eq v.name word ≡ b → (b || is_variable vars word) ≡ true → (is_variable vars word ≡ true → (j : ℕ) × (place_of args word ≡ Some j)) → (j : ℕ) × (place_of args word ≡ Some j)
    by true f h rest =
        let own = and_parts (is_num v.sort) (is_some (place_of args v.name)) parts.0 in
        found (place_of args word) (ap (λ w. is_some (place_of args w)) (sym ((bytes_eq-Decides v.name word).0 f)) ∙ own.1)
    by false f h rest = rest h
