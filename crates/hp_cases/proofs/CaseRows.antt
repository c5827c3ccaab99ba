-- The rows of cases fit the rules on sorts, and apply lower functions alone.
use Rattle.std.proofs.Common.{◌≡◌, ◌∙◌, ℕ, zero, suc, ◌<◌, ◌≤◌, List, [], ◌∷◌, map, length, take, Bool, true, false, nat_lt, Option, Some, None, refl, sym, ap, subst, arith, pos}
use Rattle.std.specs.Prelude.{if◌then◌else◌, option_and_then, position, slice_get}
use Rattle.std.specs.Option.{option_or}
use Rattle.std.specs.List.{All, list_all}
use Rattle.std.specs.Str.{bytes_eq}
use Rattle.std.proofs.lemmas.Bool.{and_from, ltb-true}
use Rattle.std.proofs.lemmas.Option.{slice_get_within}
use Rattle.std.proofs.lemmas.List.Elements.{All-head, All-map, All-tail, All-weaker}
use Rattle.hp_math.specs.Rational.{ℚ, lt_ℚ, neg_ℚ, whole}
use Rattle.hp_tree.specs.declared.problem.Atom.{Atom}
use Rattle.hp_tree.specs.declared.problem.Sort.{Sort}
use Rattle.hp_tree.specs.declared.problem.Sort.TheVariants.{Num}
use Rattle.hp_tree.specs.declared.term.Term.{Term, Name, Neg, Number, fold-roll-Term}
use Rattle.hp_tree.specs.declared.term.Term.TheOpen.{Term-F}
use Rattle.hp_tree.specs.declared.term.Term.TheVariants.{rolls-Name, rolls-Neg, rolls-Number}
use Rattle.hp_tree.specs.Value.{Word}
use Rattle.hp_terms.specs.declared.forms.Forms.{Forms}
use Rattle.hp_terms.specs.Scope.{Scope}
use Rattle.hp_terms.specs.Sorting.{atom_is_sorted, first_sort, first_step, forms_of, forms_step, has_form, name_forms}
use Rattle.hp_names.specs.Names.{AreDistinct}
use Rattle.hp_names.proofs.Texts.{same_text}
use Rattle.hp_lit.specs.Truth.{Values, name_value}
use Rattle.hp_defs.specs.Names.{NameList, constant_sort, function_words, profile_of, sort_of_definition, sorts, words}
use Rattle.hp_defs.proofs.Lists.{get_front}
use Rattle.hp_base.proofs.ArgsDefined.{get_map}
use Rattle.hp_base.specs.Lines.{flat_scope}
use Rattle.hp_local.specs.Applied.{applies_only, applies_step, atom_applies, row_applies}
use Rattle.hp_local.specs.Cases.{case_row, case_term}
use Rattle.hp_local.specs.Rows.{argument_words, number_term}
use Rattle.hp_local.specs.Sorts.{HaveSorts, IsSortedCase}
use Rattle.hp_local.specs.Substitution.{substitute, substitute_atom}
use Rattle.hp_local.proofs.Folds.{substitutes_apply_the_same}
use Rattle.hp_local.proofs.Sorts.{numbers_are_sorted, zero_sorted}
use Rattle.hp_norm.specs.Scopes.{clause_scope, function_profile, variable_sort}
use Rattle.hp_class.specs.Frame.{is_function}
use Rattle.hp_class.specs.Law.{IsScopeAt}
use Rattle.hp_flatten.specs.declared.application.Application.{Application}
use Rattle.hp_flatten.specs.Applications.{applications}
use Rattle.hp_flatten.specs.Flattening.{argument_var, argument_vars}
use Rattle.hp_flatten.specs.Laws.{AreNum, HasPlainConstant, HasPlainConstants}
use Rattle.hp_cases.specs.declared.case.Case.{Case}
use Rattle.hp_cases.specs.Cases.{IsLowerFunction, IsNumAtom, IsNumBound, IsNumCase, IsNumTerm, table_case, valued, word_term}
use Rattle.hp_cases.proofs.Applied.{Passes, lower_applies, none_lower}
use Rattle.hp_cases.proofs.Functions.{lower_word, profile_is}
use Rattle.hp_cases.proofs.Sorted.{IsNum, IsNumFirst, IsNumFunction, num_atoms, num_terms}
use Rattle.hp_cases.proofs.Words.{argument_stays, at_place, constant_at, variable_among}

-- ---- which functions are applied
pub name_applies : (test : Word → Bool) (word : Word) → applies_only test (Name word) ≡ true
name_applies test word = ap (applies_only test) (sym (rolls-Name word)) ∙ fold-roll-Term Bool (applies_step test) (Term-F.Name word)

pub number_applies : (test : Word → Bool) (q : ℚ) → applies_only test (Number q) ≡ true
number_applies test q = ap (applies_only test) (sym (rolls-Number q)) ∙ fold-roll-Term Bool (applies_step test) (Term-F.Number q)

neg_applies : (test : Word → Bool) (q : ℚ) → applies_only test (Neg (Number q)) ≡ true
neg_applies test q = ap (applies_only test) (sym (rolls-Neg (Number q))) ∙ fold-roll-Term Bool (applies_step test) (Term-F.Neg (Number q)) ∙ number_applies test q

number_term_applies : (test : Word → Bool) (q : ℚ) → applies_only test (number_term q) ≡ true
number_term_applies test q = elim (lt_ℚ q (whole (pos 0))) as (λ b. applies_only test (if b then Neg (Number (neg_ℚ q)) else Number q) ≡ true) [
  | true ↦ neg_applies test (neg_ℚ q)
  | false ↦ number_applies test q
]

valued_applies : (test : Word → Bool) (names : NameList) (v : Values) (word : Word) (o : Option ℕ) → applies_only test (valued names v word o) ≡ true
valued_applies test names v word None = name_applies test word
valued_applies test names v word (Some n) = elim (nat_lt n (length names.constants)) as (λ b. applies_only test (if b then Name word else number_term (name_value v n)) ≡ true) [
  | true ↦ name_applies test word
  | false ↦ number_term_applies test (name_value v n)
]

module _ (test : Word → Bool) (names : NameList) (v : Values) where
  abbrev r : Word → Term
  r = word_term names v

  pub term_applies : (t : Term) → All (Passes test) (applications t) → applies_only test (substitute r t) ≡ true
  term_applies t lower = substitutes_apply_the_same test r (λ word. valued_applies test names v word (position (bytes_eq word) (words names))) t ∙ lower_applies test t lower

  module _ (scope : Scope) where
    pub guard_applies : (atoms : List Atom) → All (IsNumAtom scope) atoms → list_all (atom_applies test) (map (substitute_atom r) atoms) ≡ true
    guard_applies [] h = refl
    guard_applies (a ∷ atoms) h =
        let w = All-head (IsNumAtom scope) a atoms h in
        and_from (atom_applies test (substitute_atom r a)) (list_all (atom_applies test) (map (substitute_atom r) atoms))
        (and_from (applies_only test (substitute r a.left)) (applies_only test (substitute r a.right)) (term_applies a.left (none_lower (Passes test) a.left w.left))
        (term_applies a.right (none_lower (Passes test) a.right w.right)))
        (guard_applies atoms (All-tail (IsNumAtom scope) a atoms h))

-- the functions at these places
module _ (names : NameList) (v : Values) (applied : List ℕ) where
  abbrev test : Word → Bool
  test = is_function names applied

  value_applies : (scope : Scope) (guard : List Atom) (low high : Option Term) → IsNumBound names applied scope low → IsNumBound names applied scope high
      → applies_only test (case_term (table_case names v (record { guard = guard; low = low; high = high }))) ≡ true
  value_applies scope guard (Some s) high h k = term_applies test names v s h.lower
  value_applies scope guard None (Some t) h k = term_applies test names v t k.lower
  value_applies scope guard None None h k = number_applies test (whole (pos 0))

  pub case_applies : (count : ℕ) (case : Case) → IsNumCase names count applied case → applies_only test (case_term (table_case names v case)) ≡ true
  case_applies count case h = value_applies (clause_scope names (argument_vars count)) case.guard case.low case.high h.low h.high

  pub rows_apply : (count : ℕ) (cases : List Case) → All (IsNumCase names count applied) cases → list_all (λ case. row_applies test (case_row case)) (map (table_case names v) cases) ≡ true
  rows_apply count [] h = refl
  rows_apply count (case ∷ cases) h =
      let w = All-head (IsNumCase names count applied) case cases h in
      and_from (row_applies test (case_row (table_case names v case))) (list_all (λ k. row_applies test (case_row k)) (map (table_case names v) cases))
      (and_from (list_all (atom_applies test) (map (substitute_atom (word_term names v)) case.guard)) (applies_only test (case_term (table_case names v case)))
      (guard_applies test names v (clause_scope names (argument_vars count)) case.guard w.guard) (case_applies count case w))
      (rows_apply count cases (All-tail (IsNumCase names count applied) case cases h))

-- ---- sorts
argument_sort : (scope : Scope) (ws : List Word) (ss : List Sort) (count : ℕ) → length ss ≡ count → AreNum ss → HaveSorts scope ws ss → (word : Word) (s : Sort)
    → variable_sort (map argument_var (take count ws)) word ≡ Some s → scope.name word ≡ Some Num
argument_sort scope ws ss zero l n h word s e = absurd (cc)
argument_sort scope [] ss (suc count) l n h word s e = absurd (cc)
argument_sort scope (w ∷ ws) [] (suc count) l n h word s e = absurd (omega (arith, l))
argument_sort scope (w ∷ ws) (z ∷ ss) (suc count) l n h word s e =
    by (argument_sort scope ws ss count (omega (arith, l)) (All-tail (λ x. x ≡ Num) z ss n) h.1 word s) (bytes_eq w word) refl e
  where
    by : (variable_sort (map argument_var (take count ws)) word ≡ Some s → scope.name word ≡ Some Num) → (b : Bool) → bytes_eq w word ≡ b
        → (if b then Some Num else variable_sort (map argument_var (take count ws)) word) ≡ Some s → scope.name word ≡ Some Num
    by rest true is e = ap scope.name (sym (same_text w word is)) ∙ h.0 ∙ ap (λ x. Some x) (All-head (λ x. x ≡ Num) z ss n)
    by rest false is e = rest e

num_name : (scope : Scope) (word : Word) → scope.name word ≡ Some Num → IsNum scope (Name word)
num_name scope word e = record {
  form = ap (λ f. has_form f Num) (ap (forms_of scope) (sym (rolls-Name word)) ∙ fold-roll-Term Forms (forms_step scope) (Term-F.Name word) ∙ ap name_forms e);
  first = subst IsNumFirst (sym (ap (first_sort scope) (sym (rolls-Name word)) ∙ fold-roll-Term (Option Sort) (first_step scope) (Term-F.Name word) ∙ e)) refl;
}

number_first : (scope : Scope) (q : ℚ) → IsNumFirst (first_sort scope (Number q))
number_first scope q = subst IsNumFirst (sym (ap (first_sort scope) (sym (rolls-Number q)) ∙ fold-roll-Term (Option Sort) (first_step scope) (Term-F.Number q))) tt

neg_first : (scope : Scope) (q : ℚ) → IsNumFirst (first_sort scope (Neg (Number q)))
neg_first scope q = subst IsNumFirst (sym (ap (first_sort scope) (sym (rolls-Neg (Number q))) ∙ fold-roll-Term (Option Sort) (first_step scope) (Term-F.Neg (Number q)))) (number_first scope q)

number_term_first : (scope : Scope) (q : ℚ) → IsNumFirst (first_sort scope (number_term q))
number_term_first scope q = elim (lt_ℚ q (whole (pos 0))) as (λ b. IsNumFirst (first_sort scope (if b then Neg (Number (neg_ℚ q)) else Number q))) [
  | true ↦ neg_first scope (neg_ℚ q)
  | false ↦ number_first scope q
]

module _ (size : ℕ) (some : 1 ≤ size) (names : NameList) (plain : HasPlainConstants names) (v : Values) (applied : List ℕ) (args : List Sort) (nums : AreNum args) (count : ℕ) (counted : length args ≡ count)
    (distinct : AreDistinct (function_words names)) (lower : All (IsLowerFunction names) applied) (scope : Scope) (at : IsScopeAt size names applied args scope) where
  abbrev less : Scope
  less = clause_scope names (argument_vars count)

  abbrev stands : Word → Term
  stands = word_term names v

  constant_num : (word : Word) (n : ℕ) → position (bytes_eq word) (words names) ≡ Some n → n < length names.constants → slice_get (sorts names) n ≡ Some Num → scope.name word ≡ Some Num
  constant_num word n e l s =
      let w = constant_at names word n e l in
      let c = w.constant in
      let there : slice_get (sorts names) n ≡ Some c.sort =
      get_front (map constant_sort names.constants) (map (sort_of_definition names.signatures) names.definitions) n c.sort (get_map constant_sort names.constants n c w.there) in
      let same : Some c.sort ≡ Some Num = sym there ∙ s in
      let fresh : HasPlainConstant c = subst HasPlainConstant (at_place names.constants n c c w.there) (plain n c (slice_get_within names.constants n c w.there)) in
      ap scope.name (sym w.name) ∙ at.constants n c w.there fresh ∙ same

  flat_num : (word : Word) (o : Option ℕ) → position (bytes_eq word) (words names) ≡ o → option_and_then (λ k. slice_get (sorts names) k) o ≡ Some Num → IsNum scope (valued names v word o)
  flat_num word None e s = absurd (cc)
  flat_num word (Some n) e s = by (nat_lt n (length names.constants)) refl
    where
      by : (b : Bool) → nat_lt n (length names.constants) ≡ b → IsNum scope (if b then Name word else number_term (name_value v n))
      by true is = num_name scope word (constant_num word n e (ltb-true n (length names.constants) is) s)
      by false is = record { form = numbers_are_sorted size args scope at.arguments Num (name_value v n) refl; first = number_term_first scope (name_value v n) }

  named : (word : Word) → less.name word ≡ Some Num → IsNum scope (stands word)
  named word e = by (variable_sort (argument_vars count) word) refl e
    where
      by : (o : Option Sort) → variable_sort (argument_vars count) word ≡ o → option_or o ((flat_scope names).name word) ≡ Some Num → IsNum scope (stands word)
      by None is h = flat_num word (position (bytes_eq word) (words names)) refl h
      by (Some s) is h =
          subst (IsNum scope) (sym (argument_stays names plain v word (variable_among argument_words count word s is)))
          (num_name scope word (argument_sort scope argument_words args count counted nums at.arguments.arguments word s is))

  -- a lower function has its profile in both scopes
  lower_num : (a : Application) → is_function names applied a.func ≡ true → IsNumFunction less scope a.func
  lower_num a e =
      let l = lower_word names applied lower a.func e in
      record {
        profile = profile_of l.signature;
        before = ap (λ (w : Word). function_profile names w) (sym l.name) ∙ profile_is names distinct l.func l.signature l.known;
        after = ap scope.function (sym l.name) ∙ at.functions l.func l.signature l.among l.known;
        args = l.nums;
        result = l.result;
      }

  bound_num : (t : Term) → IsNumTerm names applied less t → IsNum scope (substitute stands t)
  bound_num t h =
      num_terms less scope stands named t
      (All-weaker (λ (a : Application). is_function names applied a.func ≡ true) (λ (a : Application). IsNumFunction less scope a.func) lower_num (applications t) h.lower) h.sorted

  value_sorted : (guard : List Atom) (low high : Option Term) → IsNumBound names applied less low → IsNumBound names applied less high
      → has_form (forms_of scope (case_term (table_case names v (record { guard = guard; low = low; high = high })))) Num ≡ true
  value_sorted guard (Some s) high h k = (bound_num s h).form
  value_sorted guard None (Some t) h k = (bound_num t k).form
  value_sorted guard None None h k = zero_sorted size args scope at.arguments some Num

  pub case_sorted : (case : Case) → IsNumCase names count applied case → IsSortedCase scope Num (table_case names v case)
  case_sorted case h = record {
    guard = All-map (λ a. atom_is_sorted scope a ≡ true) (substitute_atom stands) case.guard
        (λ k d l. (let w = h.guard k d l in num_atoms less scope stands named _ w.left w.right w.sorted));
    value = value_sorted case.guard case.low case.high h.low h.high;
  }
