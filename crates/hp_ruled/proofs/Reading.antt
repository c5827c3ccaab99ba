-- What is so of a clause that was read, and what holds of all clauses once it is kept by each of them.
use Rattle.std.proofs.Common.{◌≡◌, ◌&&◌, ℕ, List, [], ◌∷◌, ◌++◌, Bool, true, false, not, length, Option, Some, None, Result, Ok, Err, refl, sym, ap, subst, ◌∙◌, append_assoc, append-nil, ◌⊎◌, inl, inr}
use Rattle.std.specs.Prelude.{if◌then◌else◌, option_map, option_and_then}
use Rattle.std.specs.List.{All, list_all, list_any}
use Rattle.std.proofs.lemmas.Bool.{and_parts, or_parts}
use Rattle.std.proofs.lemmas.List.Elements.{All-head, All-tail}
use Rattle.hp_num.proofs.Given as given
use Rattle.hp_tree.specs.declared.problem.Atom.{Atom}
use Rattle.hp_tree.specs.declared.problem.Sort.{Sort}
use Rattle.hp_tree.specs.declared.problem.Sort.TheVariants.{Num, Idx, Ptr}
use Rattle.hp_tree.specs.declared.problem.Var.{Var}
use Rattle.hp_tree.specs.Value.{Word}
use Rattle.hp_lit.specs.declared.literal.NumLit.{NumLit}
use Rattle.hp_linear.specs.Steps.{Refusable}
use Rattle.hp_defs.specs.declared.names.Signature.{Signature}
use Rattle.hp_defs.specs.Names.{NameList}
use Rattle.hp_norm.specs.declared.flat.FlatClause.{FlatClause}
use Rattle.hp_shapes.specs.declared.shape.Form.{Form}
use Rattle.hp_shapes.specs.Shapes.{form_from, form_of, is_name, is_num, is_value, sides_of}
use Rattle.hp_flatten.specs.declared.application.Application.{Application}
use Rattle.hp_flatten.specs.Applications.{clause_applications}
use Rattle.hp_flatten.specs.Flattening.{are_arguments, flattened}
use Rattle.hp_cases.specs.declared.case.Bound.{Bound}
use Rattle.hp_cases.specs.Bounds.{head_bound}
use Rattle.hp_pairs.specs.declared.branch.Branch.{Branch}
use Rattle.hp_rules.specs.declared.ruled.Ruled.{Ruled}
use Rattle.hp_rules.specs.declared.ruled.RuleErr.{RuleErr}
use Rattle.hp_index_set.specs.Rules.{has_index_guards, reads_at_variables}
use Rattle.hp_flatten.specs.Sorts.{is_idx}
use Rattle.hp_rules.specs.Rules.{application_place, array_clause, broken, first_word, form_over, function_place, has_level, is_array_application, is_case_atom, is_num_function, is_taken, monotone_place, placed, read_applications, read_at, read_case, read_clause, read_clauses, read_guard, read_head, read_level, read_nums, read_owned, read_rows, rows_of, rule_words, signature_of, with_array, with_branches, with_case, with_monotone}

pub ok_is : {A E : Type 0} (x y : A) → ◌≡◌ {A = Result A E} (Ok x) (Ok y) → x ≡ y
ok_is x y e = cc

-- a clause of monotone shape, whose function was not own before
pub record MonotoneRead (names : NameList) (monotone : List ℕ) (before : Ruled) (c : FlatClause) (after : Ruled) : Type 0 where
  pub func : ℕ
  pub place : monotone_place names c ≡ Some func
  pub nums : list_all (λ a. is_num_function names (application_place names a)) (clause_applications c) ≡ true
  pub free : is_taken monotone before.owned (Some func) ≡ false
  pub is : with_monotone before func ≡ after

-- a clause of a case
pub record CaseRead (names : NameList) (monotone : List ℕ) (before : Ruled) (c : FlatClause) (after : Ruled) : Type 0 where
  pub application : Application
  pub one : clause_applications c ≡ application ∷ []
  pub func : ℕ
  pub place : application_place names application ≡ Some func
  pub num : is_num_function names (Some func) ≡ true
  pub free : is_taken monotone before.owned (Some func) ≡ false
  pub none : monotone_place names c ≡ None
  pub arguments : are_arguments c.vars application.args ≡ true
  pub guard : list_all (is_case_atom names c) c.guard ≡ true
  pub bound : Bound
  pub head : head_bound application.func (flattened application c).head ≡ Some bound
  pub rows : List NumLit
  pub rowed : rows_of (rule_words names) (flattened application c).guard ≡ Ok rows
  pub branches : List Branch
  pub cased : with_case (rule_words names) func (length application.args) (flattened application c) rows bound before.branches ≡ Some branches
  pub is : with_branches before func (flattened application c) branches ≡ after

-- a clause over arrays
pub record ArrayRead (names : NameList) (before : Ruled) (c : FlatClause) (after : Ruled) : Type 0 where
  pub first : Application
  pub more : List Application
  pub applications : clause_applications c ≡ first ∷ more
  pub arrays : list_all (is_array_application names) (first ∷ more) ≡ true
  pub level : ℕ
  pub levels : list_all (λ a. has_level level (signature_of names a)) (first ∷ more) ≡ true
  pub guards : has_index_guards names c ≡ true
  pub reads : reads_at_variables names c ≡ true
  pub none : monotone_place names c ≡ None
  pub is : with_array before (array_clause names level c (first ∷ more)) ≡ after

-- ---- clauses over indexes have no monotone shape
idx_not_num : (s : Sort) → is_idx s ≡ true → is_num s ≡ false
idx_not_num Num e = absurd (cc)
idx_not_num Idx e = refl
idx_not_num Ptr e = refl

index_form : (word : Word) (vars : List Var) (guard head : List Atom) → list_all (λ v. is_idx v.sort) vars ≡ true → form_of word vars guard head ≡ None
index_form word [] guard head h = refl
index_form word (x ∷ []) guard head h = refl
index_form word (x ∷ y ∷ z ∷ vars) guard head h = refl
index_form word (x ∷ y ∷ []) [] head h = refl
index_form word (x ∷ y ∷ []) (g ∷ i ∷ guard) head h = refl
index_form word (x ∷ y ∷ []) (g ∷ []) [] h = refl
index_form word (x ∷ y ∷ []) (g ∷ []) (a ∷ b ∷ head) h = refl
index_form word (x ∷ y ∷ []) (g ∷ []) (a ∷ []) h =
    let first = idx_not_num x.sort (and_parts (is_idx x.sort) (list_all (λ (v : Var). is_idx v.sort) (y ∷ [])) h).0 in
    ap (λ b. if b && is_num y.sort then form_from (sides_of (is_name word) x.name y.name g) (sides_of (is_value word) x.name y.name a) else None) first

none_placed : (names : NameList) (c : FlatClause) (o : Option Word) → list_all (λ v. is_idx v.sort) c.vars ≡ true → option_and_then (function_place names) (option_and_then (form_over c) o) ≡ None
none_placed names c None h = refl
none_placed names c (Some word) h = ap (λ (p : Option Form). option_and_then (function_place names) (option_map (λ (form : Form). word) p)) (index_form word c.vars c.guard c.head h)

index_place : (names : NameList) (c : FlatClause) → has_index_guards names c ≡ true → monotone_place names c ≡ None
index_place names c h = none_placed names c (first_word (clause_applications c)) (and_parts (list_all (λ (v : Var). is_idx v.sort) c.vars) _ h).0

module _ (names : NameList) (monotone : List ℕ) (before : Ruled) (c : FlatClause) (after : Ruled) where
  abbrev pub Read : Type 0
  Read = MonotoneRead names monotone before c after ⊎ (CaseRead names monotone before c after ⊎ ArrayRead names before c after)

  abbrev numeric : Application → Bool
  numeric a = is_num_function names (application_place names a)

  abbrev taken : Application → Bool
  taken a = is_taken monotone before.owned (application_place names a)

  -- ---- a case
  placed_is : (func : ℕ) (k : FlatClause) (o : Option (List Branch)) → placed before func k o ≡ Ok after → (bs : List Branch) × (o ≡ Some bs) × (with_branches before func k bs ≡ after)
  placed_is func k None e = absurd (cc)
  placed_is func k (Some bs) e = (bs, refl, ok_is (with_branches before func k bs) after e)

  rows_are : (func args : ℕ) (k : FlatClause) (bound : Bound) (r : Refusable (List NumLit)) → read_rows names before func args k bound r ≡ Ok after
      → (rows : List NumLit) × (bs : List Branch) × (r ≡ Ok rows) × (with_case (rule_words names) func args k rows bound before.branches ≡ Some bs) × (with_branches before func k bs ≡ after)
  rows_are func args k bound (Ok rows) e = let p = placed_is func k (with_case (rule_words names) func args k rows bound before.branches) e in (rows, p.0, refl, p.1, p.2)
  rows_are func args k bound (Err x) e = absurd (cc)

  head_is : (func args : ℕ) (k : FlatClause) (o : Option Bound) → read_head names before func args k o ≡ Ok after
      → (bound : Bound) × (o ≡ Some bound) × (read_rows names before func args k bound (rows_of (rule_words names) k.guard) ≡ Ok after)
  head_is func args k None e = absurd (cc)
  head_is func args k (Some bound) e = (bound, refl, e)

  module _ (a : Application) (one : clause_applications c ≡ a ∷ []) (none : monotone_place names c ≡ None) (nums : list_all numeric (a ∷ []) ≡ true) (free : list_any taken (a ∷ []) ≡ false) where
    abbrev flat : FlatClause
    flat = flattened a c

    by_guard : (func : ℕ) → application_place names a ≡ Some func → are_arguments c.vars a.args ≡ true → (b : Bool) → list_all (is_case_atom names c) c.guard ≡ b
        → (if b then read_head names before func (length a.args) flat (head_bound a.func flat.head) else Err (broken c.clause 6)) ≡ Ok after → CaseRead names monotone before c after
    by_guard func p args false g e = absurd (cc)
    by_guard func p args true g e =
        let h = head_is func (length a.args) flat (head_bound a.func flat.head) e in
        let r = rows_are func (length a.args) flat h.0 (rows_of (rule_words names) flat.guard) h.2 in
        record {
          application = a;
          one = one;
          func = func;
          place = p;
          num = subst (λ o. is_num_function names o ≡ true) p (and_parts (numeric a) true nums).0;
          free = subst (λ o. is_taken monotone before.owned o ≡ false) p (or_parts (taken a) false free).0;
          none = none;
          arguments = args;
          guard = g;
          bound = h.0;
          head = h.1;
          rows = r.0;
          rowed = r.2;
          branches = r.1;
          cased = r.3;
          is = r.4;
        }

    by_arguments : (func : ℕ) → application_place names a ≡ Some func → (b : Bool) → are_arguments c.vars a.args ≡ b
        → (if b then read_guard names before func a c else Err (broken c.clause 5)) ≡ Ok after → CaseRead names monotone before c after
    by_arguments func p false g e = absurd (cc)
    by_arguments func p true g e = by_guard func p g (list_all (is_case_atom names c) c.guard) refl e

    by_place : (o : Option ℕ) → application_place names a ≡ o → read_at names before a c o ≡ Ok after → CaseRead names monotone before c after
    by_place None p e = absurd (cc)
    by_place (Some func) p e = by_arguments func p (are_arguments c.vars a.args) refl e

  by_case : (a : Application) (more : List Application) → clause_applications c ≡ a ∷ more → monotone_place names c ≡ None → list_all numeric (a ∷ more) ≡ true → list_any taken (a ∷ more) ≡ false
      → read_case names before c (a ∷ more) ≡ Ok after → CaseRead names monotone before c after
  by_case a [] one none nums free e = by_place a one none nums free (application_place names a) refl e
  by_case a (b ∷ more) one none nums free e = absurd (cc)

  -- ---- monotone shape
  -- the function is that of the first application
  formed : (a : Application) (o : Option Form) (func : ℕ) → option_and_then (function_place names) (option_map (λ (form : Form). a.func) o) ≡ Some func → application_place names a ≡ Some func
  formed a None func e = absurd (cc)
  formed a (Some form) func e = e

  first_place : (a : Application) (more : List Application) (func : ℕ) → clause_applications c ≡ a ∷ more → monotone_place names c ≡ Some func → application_place names a ≡ Some func
  first_place a more func is e =
      formed a (form_of a.func c.vars c.guard c.head) func
      (sym (ap (λ (apps : List Application). option_and_then (function_place names) (option_and_then (form_over c) (first_word apps))) is) ∙ e)

  by_shape : (a : Application) (more : List Application) → clause_applications c ≡ a ∷ more → list_all numeric (a ∷ more) ≡ true → list_any taken (a ∷ more) ≡ false
      → (o : Option ℕ) → monotone_place names c ≡ o → read_owned names before c (a ∷ more) o ≡ Ok after → Read
  by_shape a more is nums free None m e = inr (inl (by_case a more is m nums free e))
  by_shape a more is nums free (Some func) m e = inl (record {
    func = func;
    place = m;
    nums = ap (list_all numeric) is ∙ nums;
    free = subst (λ o. is_taken monotone before.owned o ≡ false) (first_place a more func is m) (or_parts (taken a) (list_any taken more) free).0;
    is = ok_is (with_monotone before func) after e;
  })

  by_taken : (a : Application) (more : List Application) → clause_applications c ≡ a ∷ more → list_all numeric (a ∷ more) ≡ true → (b : Bool) → list_any taken (a ∷ more) ≡ b
      → (if b then Err (broken c.clause 4) else read_owned names before c (a ∷ more) (monotone_place names c)) ≡ Ok after → Read
  by_taken a more is nums true free e = absurd (cc)
  by_taken a more is nums false free e = by_shape a more is nums free (monotone_place names c) refl e

  -- ---- arrays
  module _ (a : Application) (more : List Application) (is : clause_applications c ≡ a ∷ more) (arrays : list_all (is_array_application names) (a ∷ more) ≡ true) where
    abbrev on : ℕ → Application → Bool
    on level x = has_level level (signature_of names x)

    abbrev read_as : ℕ → Result Ruled RuleErr
    read_as level = Ok (with_array before (array_clause names level c (a ∷ more)))

    by_reads : (level : ℕ) → list_all (on level) (a ∷ more) ≡ true → has_index_guards names c ≡ true → (b : Bool) → reads_at_variables names c ≡ b
        → (if not b then Err (broken c.clause 11) else read_as level) ≡ Ok after → Read
    by_reads level levels guards false reads e = absurd (cc)
    by_reads level levels guards true reads e = inr (inr (record {
      first = a;
      more = more;
      applications = is;
      arrays = arrays;
      level = level;
      levels = levels;
      guards = guards;
      reads = reads;
      none = index_place names c guards;
      is = ok_is (with_array before (array_clause names level c (a ∷ more))) after e;
    }))

    by_guards : (level : ℕ) → list_all (on level) (a ∷ more) ≡ true → (b : Bool) → has_index_guards names c ≡ b
        → (if not b then Err (broken c.clause 10) else (if not (reads_at_variables names c) then Err (broken c.clause 11) else read_as level)) ≡ Ok after → Read
    by_guards level levels false guards e = absurd (cc)
    by_guards level levels true guards e = by_reads level levels guards (reads_at_variables names c) refl e

    by_levels : (level : ℕ) (b : Bool) → list_all (on level) (a ∷ more) ≡ b
        → (if not b then Err (broken c.clause 2) else (if not (has_index_guards names c) then Err (broken c.clause 10) else (if not (reads_at_variables names c) then Err (broken c.clause 11) else read_as level)))
        ≡ Ok after → Read
    by_levels level false levels e = absurd (cc)
    by_levels level true levels e = by_guards level levels (has_index_guards names c) refl e

    by_level : (o : Option Signature) → read_level names before c (a ∷ more) o ≡ Ok after → Read
    by_level None e = absurd (cc)
    by_level (Some s) e = by_levels s.level (list_all (on s.level) (a ∷ more)) refl e

  by_kind : (a : Application) (more : List Application) → clause_applications c ≡ a ∷ more → (b : Bool) → list_all (is_array_application names) (a ∷ more) ≡ b
      → (if b then read_level names before c (a ∷ more) (signature_of names a) else Err (broken c.clause 3)) ≡ Ok after → Read
  by_kind a more is false arrays e = absurd (cc)
  by_kind a more is true arrays e = by_level a more is arrays (signature_of names a) e

  by_numbers : (a : Application) (more : List Application) → clause_applications c ≡ a ∷ more → (b : Bool) → list_all numeric (a ∷ more) ≡ b
      → (if b then read_nums names monotone before c (a ∷ more)
      else (if list_all (is_array_application names) (a ∷ more) then read_level names before c (a ∷ more) (signature_of names a) else Err (broken c.clause 3))) ≡ Ok after → Read
  by_numbers a more is false nums e = by_kind a more is (list_all (is_array_application names) (a ∷ more)) refl e
  by_numbers a more is true nums e = by_taken a more is nums (list_any taken (a ∷ more)) refl e

  by_applications : (apps : List Application) → clause_applications c ≡ apps → read_applications names monotone before c apps ≡ Ok after → Read
  by_applications [] is e = absurd (cc)
  by_applications (a ∷ more) is e = by_numbers a more is (list_all numeric (a ∷ more)) refl e

  pub clause_read : read_clause names monotone before c ≡ Ok after → Read
  clause_read e = by_applications (clause_applications c) refl e

-- ---- all clauses
-- what each clause keeps, one after the other
module _ (names : NameList) (monotone : List ℕ) (Among : FlatClause → Type 0) (Kept : List FlatClause → Ruled → Type 0)
    (step : (done : List FlatClause) (before : Ruled) (c : FlatClause) (after : Ruled) → Among c → Kept done before → Read names monotone before c after → Kept (done ++ c ∷ []) after) where
  pub all_keep : (done clauses : List FlatClause) (before ruled : Ruled) → All Among clauses → Kept done before → read_clauses names monotone before clauses ≡ Ok ruled → Kept (done ++ clauses) ruled
  all_keep done [] before ruled among kept e = subst (λ r. Kept (done ++ []) r) (ok_is before ruled e) (subst (λ cs. Kept cs before) (sym (append-nil done)) kept)
  all_keep done (c ∷ clauses) before ruled among kept e =
      let s = given.came (read_clause names monotone before c) (λ next. read_clauses names monotone next clauses) ruled e in
      subst (λ cs. Kept cs ruled) (append_assoc done (c ∷ []) clauses)
      (all_keep (done ++ c ∷ []) clauses s.value ruled (All-tail Among c clauses among)
      (step done before c s.value (All-head Among c clauses among) kept (clause_read names monotone before c s.value s.first)) s.rest)
