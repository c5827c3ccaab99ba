-- What the trait of classes asks of functions by cases.
use Rattle.std.proofs.Common.{◌≡◌, ◌≤◌, ℕ, List, [], ◌∷◌, ◌++◌, map, length, Option, Some, None, true, ◌&&◌, ◌||◌, refl, sym, ap, subst, ◌∙◌}
use Rattle.std.specs.Prelude.{slice_get}
use Rattle.std.specs.List.{All, AllZip, Contains}
use Rattle.std.proofs.lemmas.List.Elements.{All-contains, All-map, All-weaker}
use Rattle.std.proofs.lemmas.Bool.{and_from, and_parts, or_left, or_right}
use Rattle.hp_tree.specs.declared.problem.Atom.{Atom}
use Rattle.hp_tree.specs.declared.problem.Sort.TheVariants.{Num}
use Rattle.hp_tree.specs.declared.term.Term.{Term}
use Rattle.hp_tree.specs.Value.{Word}
use Rattle.hp_terms.specs.Sorting.{atom_is_sorted, forms_of, has_form, sort_of}
use Rattle.hp_terms.proofs.Wider.{wider_scopes_keep_forms, wider_scopes_keep_sorts}
use Rattle.hp_names.proofs.Texts.{text_same}
use Rattle.hp_defs.specs.declared.names.Constant.{Constant}
use Rattle.hp_defs.specs.declared.names.Signature.{Signature}
use Rattle.hp_local.proofs.Lists.{All-by, contains_first, map_contains}
use Rattle.hp_lit.specs.Truth.{Values}
use Rattle.hp_defs.specs.Fit.{IsFitNames}
use Rattle.hp_defs.specs.Made.{IsMade}
use Rattle.hp_defs.specs.Names.{BeginsNames, NameList}
use Rattle.hp_norm.specs.declared.flat.FlatClause.{FlatClause}
use Rattle.hp_norm.specs.Scopes.{clause_scope}
use Rattle.hp_model.specs.declared.structure.Table.{Table}
use Rattle.hp_local.specs.Cases.{case_table}
use Rattle.hp_local.specs.Sorts.{IsSortedCase}
use Rattle.hp_local.proofs.ClassSorts.{case_tables_are_sorted}
use Rattle.hp_local.proofs.Lower.{case_tables_apply_theirs}
use Rattle.hp_local.specs.Frame.{is_own}
use Rattle.hp_class.specs.Frame.{facts_of, is_function, signature_word, words_at}
use Rattle.hp_class.proofs.Stays.{clause_scopes_widen, flat_stays}
use Rattle.hp_flatten.specs.declared.application.Application.{Application}
use Rattle.hp_flatten.specs.Applications.{applications}
use Rattle.hp_flatten.specs.Flattening.{argument_vars}
use Rattle.hp_flatten.specs.Laws.{HasPlainConstant}
use Rattle.hp_class.specs.Group.{PlanFits, Planned, PlannedFits}
use Rattle.hp_class.specs.Points.{points}
use Rattle.hp_class.specs.Law.{HasSortedPoints, IsTableAt}
use Rattle.hp_tables.proofs.Applies.{AppliesOnly}
use Rattle.hp_cases.specs.declared.case.Case.{Case}
use Rattle.hp_cases.specs.Cases.{IsByCases, IsCaseClause, IsNumAtom, IsNumBound, IsNumCase, bound_term, cases_plan, cases_tables, point_tuple, table_case}
use Rattle.hp_cases.proofs.Applied.{lower_applies}
use Rattle.hp_cases.proofs.CaseRows.{case_sorted, rows_apply}
use Rattle.hp_cases.proofs.Fitting.{points_fit}
use Rattle.hp_cases.proofs.Functions.{applied_stay, lower_stay}
use Rattle.hp_cases.proofs.Heads.{IsHead, clause_passes, head_of}
use Rattle.std.specs.Str.{bytes_eq}

-- ---- names that grow
form_stays : (old new : NameList) (count : ℕ) (t : Term) → BeginsNames old new → IsMade new → has_form (forms_of (clause_scope old (argument_vars count)) t) Num ≡ true
    → has_form (forms_of (clause_scope new (argument_vars count)) t) Num ≡ true
form_stays old new count t b made e =
    wider_scopes_keep_forms (clause_scope old (argument_vars count)) (clause_scope new (argument_vars count)) t Num (clause_scopes_widen (argument_vars count) old new b made) e

atom_stays : (old new : NameList) (count : ℕ) (a : Atom) → BeginsNames old new → IsMade new → IsNumAtom (clause_scope old (argument_vars count)) a → IsNumAtom (clause_scope new (argument_vars count)) a
atom_stays old new count a b made h =
    let f = forms_of (clause_scope old (argument_vars count)) in
    let g = forms_of (clause_scope new (argument_vars count)) in
    let p = and_parts (has_form (f a.left) Num && has_form (f a.right) Num) true h.sorted in
    let q = and_parts (has_form (f a.left) Num) (has_form (f a.right) Num) p.0 in
    record {
      sorted = and_from (has_form (g a.left) Num && has_form (g a.right) Num) true
          (and_from (has_form (g a.left) Num) (has_form (g a.right) Num) (form_stays old new count a.left b made q.0) (form_stays old new count a.right b made q.1)) refl;
      left = h.left;
      right = h.right;
    }

bound_stays : (old new : NameList) (count : ℕ) (applied : List ℕ) (o : Option Term) → BeginsNames old new → IsMade new → IsNumBound old applied (clause_scope old (argument_vars count)) o
    → IsNumBound new applied (clause_scope new (argument_vars count)) o
bound_stays old new count applied None b made h = tt
bound_stays old new count applied (Some t) b made h = record { sorted = form_stays old new count t b made h.sorted; lower = applied_stay old new b.signatures applied t h.lower }

case_stays : (old new : NameList) (count : ℕ) (applied : List ℕ) (k : Case) → BeginsNames old new → IsMade new → IsNumCase old count applied k → IsNumCase new count applied k
case_stays old new count applied k b made h = record {
  guard = All-weaker (IsNumAtom (clause_scope old (argument_vars count))) (IsNumAtom (clause_scope new (argument_vars count))) (λ a n. atom_stays old new count a b made n) k.guard h.guard;
  low = bound_stays old new count applied k.low b made h.low;
  high = bound_stays old new count applied k.high b made h.high;
}

nums_stay : (old new : NameList) (c : FlatClause) → BeginsNames old new → IsMade new → All (λ a. atom_is_sorted (clause_scope old c.vars) a ≡ true) c.guard
    → All (λ a. sort_of (clause_scope old c.vars) a ≡ Num) c.guard → All (λ a. sort_of (clause_scope new c.vars) a ≡ Num) c.guard
nums_stay old new c b made sorted nums =
    All-by (λ a. sort_of (clause_scope new c.vars) a ≡ Num) c.guard
    (λ a m. sym (wider_scopes_keep_sorts (clause_scope old c.vars) (clause_scope new c.vars) a (clause_scopes_widen c.vars old new b made)
    (All-contains (λ x. atom_is_sorted (clause_scope old c.vars) x ≡ true) c.guard a sorted m)).0 ∙ All-contains (λ x. sort_of (clause_scope old c.vars) x ≡ Num) c.guard a nums m)

pub clause_stays : (old new : NameList) (word : Word) (count : ℕ) (cases : List Case) (applied : List ℕ) (c : FlatClause) → BeginsNames old new → IsMade new → IsCaseClause old word count cases applied c
    → IsCaseClause new word count cases applied c
clause_stays old new word count cases applied c b made h = record {
  flat = flat_stays old new c b made h.flat;
  vars = h.vars;
  bound = h.bound;
  head = h.head;
  value = h.value;
  lower = applied_stay old new b.signatures applied (bound_term h.bound) h.lower;
  nums = nums_stay old new c b made h.flat.guard h.nums;
  bare = h.bare;
  case = h.case;
  among = h.among;
  has = h.has;
  guard = h.guard;
}

pub cases_stay : (old new : NameList) (func : ℕ) (word : Word) (count : ℕ) (clauses : List FlatClause) (cases : List Case) (applied own : List ℕ) → IsByCases old func word count clauses cases applied own
    → BeginsNames old new → IsMade new → IsByCases new func word count clauses cases applied own
cases_stay old new func word count clauses cases applied own lent b made = record {
  signature = lent.signature;
  known = ap (λ (ss : List Signature). slice_get ss func) b.signatures ∙ lent.known;
  name = lent.name;
  arguments = lent.arguments;
  nums = lent.nums;
  result = lent.result;
  few = lent.few;
  constants = subst (λ (cs : List Constant). All HasPlainConstant cs) (sym b.constants) lent.constants;
  distinct = made.functions;
  own = lent.own;
  lower = lower_stay old new b.signatures applied lent.lower;
  others = lent.others;
  all = All-weaker (IsCaseClause old word count cases applied) (IsCaseClause new word count cases applied) (λ c h. clause_stays old new word count cases applied c b made h) clauses lent.all;
  sorted = All-weaker (IsNumCase old count applied) (IsNumCase new count applied) (λ k h. case_stays old new count applied k b made h) cases lent.sorted;
  apart = lent.apart;
  ordered = lent.ordered;
}

-- ---- what they apply
-- a function first among some, and then these
pub with_own : (names : NameList) (func : ℕ) (s : Signature) (applied : List ℕ) → slice_get names.signatures func ≡ Some s → (word : Word)
    → is_function names (func ∷ applied) word ≡ (bytes_eq s.name word || is_function names applied word)
with_own names func s applied known word = ap (λ (o : Option Signature). is_own (signature_word o ++ words_at names applied) word) known

pub cases_plan_fits : (names : NameList) (func : ℕ) (word : Word) (count : ℕ) (clauses : List FlatClause) (cases : List Case) (applied own : List ℕ) → IsByCases names func word count clauses cases applied own
    → IsMade names → IsFitNames names → PlanFits names clauses (cases_plan func clauses names)
cases_plan_fits names func word count clauses cases applied own lent made fit =
    let all = map point_tuple (points func names.definitions) in
    let planned : FlatClause → Planned = λ c. record { clause = c; tuples = all } in
    All-by (PlannedFits names clauses) (map planned clauses)
    (λ p m. (let w = map_contains planned clauses p m in
    let h = All-contains (IsCaseClause names word count cases applied) clauses w.0 lent.all w.1 in
    let head = head_of word count w.0.head h.bound h.head h.value in
    subst (PlannedFits names clauses) w.2 (record {
      among = w.1;
      flat = h.flat;
      tuples = points_fit names made fit func lent.signature lent.known lent.nums lent.result count lent.few lent.arguments applied lent.lower w.0 h.vars h.flat h.nums h.bare h.bound
          (subst (λ (u : Word). IsHead u count w.0.head h.bound) (sym lent.name) head) h.lower;
    })))

pub cases_apply : (names : NameList) (func : ℕ) (word : Word) (count : ℕ) (clauses : List FlatClause) (cases : List Case) (applied own : List ℕ) → IsByCases names func word count clauses cases applied own
    → All (AppliesOnly names (own ++ applied)) clauses
cases_apply names func word count clauses cases applied own lent =
    let s = lent.signature in
    let test = is_function names (func ∷ applied) in
    let here : test s.name ≡ true = with_own names func s applied lent.known s.name ∙ or_left (bytes_eq s.name s.name) (is_function names applied s.name) (text_same s.name) in
    let named : test word ≡ true = subst (λ (w : Word). test w ≡ true) lent.name here in
    let passes = λ (w : Word) (e : is_function names applied w ≡ true). with_own names func s applied lent.known w ∙ or_right (bytes_eq s.name w) (is_function names applied w) e in
    subst (λ (fs : List ℕ). All (AppliesOnly names (fs ++ applied)) clauses) (sym lent.own)
    (All-weaker (IsCaseClause names word count cases applied) (AppliesOnly names (func ∷ applied))
    (λ c h.
    let lower = lower_applies test (bound_term h.bound) (All-weaker (λ (a : Application). is_function names applied a.func ≡ true) (λ (a : Application). test a.func ≡ true) (λ a e. passes a.func e) (applications (bound_term h.bound)) h.lower) in
    clause_passes test word count h.bound named lower c h.bare (head_of word count c.head h.bound h.head h.value)) clauses lent.all)

pub cases_fit : (size : ℕ) (names : NameList) (v : Values) (func : ℕ) (word : Word) (count : ℕ) (clauses : List FlatClause) (cases : List Case) (applied own : List ℕ)
    → IsByCases names func word count clauses cases applied own → 1 ≤ size → ((k : ℕ) → Contains own k → HasSortedPoints size names v k)
    → AllZip (IsTableAt size names applied) own (cases_tables func word count cases names v)
cases_fit size names v func word count clauses cases applied own lent some sorted =
    let s = lent.signature in
    let facts = facts_of func s.name names v in
    let among : Contains own func = subst (λ (fs : List ℕ). Contains fs func) (sym lent.own) (contains_first func []) in
    let points = sorted func among s lent.known in
    let shown = map (table_case names v) cases in
    let table : Table = case_table s.name (length s.args) facts shown in
    let at : IsTableAt size names applied func table = record {
      signature = s;
      known = lent.known;
      name = refl;
      arguments = refl;
      applies = case_tables_apply_theirs (λ u. is_function names applied u) s.name (length s.args) facts shown (rows_apply names v applied count cases lent.sorted);
      sorted = λ scope h. case_tables_are_sorted size s.args s.result scope s.name (length s.args) facts shown some h.arguments points
          (subst (λ z. All (IsSortedCase scope z) shown) (sym lent.result)
          (All-map (IsSortedCase scope Num) (table_case names v) cases
          (λ k d l. case_sorted size some names lent.constants v applied s.args lent.nums count lent.arguments lent.distinct lent.lower scope h _ (lent.sorted k d l))));
    } in
    let one : AllZip (IsTableAt size names applied) (func ∷ []) (cases_tables func s.name (length s.args) cases names v) = (at, tt) in
    subst (λ (fs : List ℕ). AllZip (IsTableAt size names applied) fs (cases_tables func word count cases names v)) (sym lent.own)
    (subst (λ n. AllZip (IsTableAt size names applied) (func ∷ []) (cases_tables func word n cases names v)) lent.arguments
    (subst (λ (w : Word). AllZip (IsTableAt size names applied) (func ∷ []) (cases_tables func w (length s.args) cases names v)) lent.name one))
