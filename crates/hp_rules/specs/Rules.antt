-- The rules of the profile that clauses keep one by one, and what the clauses are once they are read: each function with the clauses that
-- it owns, the cases of functions, and the clauses over arrays.
use Rattle.std.specs.Prelude.{ℕ, List, [], ◌∷◌, ◌++◌, length, Bool, true, false, ◌&&◌, not, nat_eq, if◌then◌else◌, Option, Some, None, position, slice_get, Result, Ok, Err, option_and_then, option_map}
use Rattle.std.specs.List.{list_all, list_any}
use Rattle.std.specs.Ordering.{int_eq}
use Rattle.std.specs.Str.{bytes_eq}
use Rattle.hp_num.specs.Wide.{◌>>=◌}
use Rattle.hp_tree.specs.declared.term.Term.{Term}
use Rattle.hp_tree.specs.declared.problem.Atom.{Atom}
use Rattle.hp_tree.specs.declared.problem.Cmp.TheVariants.{Lt}
use Rattle.hp_tree.specs.declared.problem.Sort.{Sort}
use Rattle.hp_tree.specs.declared.problem.Sort.TheVariants.{Idx as idx}
use Rattle.hp_tree.specs.Value.{Word}
use Rattle.hp_terms.specs.Sorting.{sort_of}
use Rattle.hp_lit.specs.declared.literal.Lit.{Lit}
use Rattle.hp_lit.specs.declared.literal.Lit.TheVariants.{Num, Idx, Ptr}
use Rattle.hp_lit.specs.declared.literal.NumLit.{NumLit}
use Rattle.hp_lit.specs.declared.literal.Part.{Part}
use Rattle.hp_lit.specs.declared.literal.Rel.{Rel}
use Rattle.hp_lit.specs.declared.literal.Rel.TheVariants as rel
use Rattle.hp_lit.specs.Limited.{coefficient}
use Rattle.hp_linear.specs.Steps.{Refusable}
use Rattle.hp_linear.specs.Literals.{literals}
use Rattle.hp_defs.specs.declared.names.Signature.{Signature}
use Rattle.hp_defs.specs.Names.{NameList, function_words, words}
use Rattle.hp_local.specs.Rows.{argument_words}
use Rattle.hp_norm.specs.declared.flat.FlatClause.{FlatClause}
use Rattle.hp_norm.specs.Scopes.{clause_scope}
use Rattle.hp_shapes.specs.declared.shape.Form.{Form}
use Rattle.hp_shapes.specs.Shapes.{form_of}
use Rattle.hp_class.specs.Frame.{is_place}
use Rattle.hp_flatten.specs.declared.application.Application.{Application}
use Rattle.hp_flatten.specs.Applications.{atoms_applications, clause_applications}
use Rattle.hp_flatten.specs.Flattening.{are_arguments, flattened}
use Rattle.hp_flatten.specs.Sorts.{is_num}
use Rattle.hp_cases.specs.declared.case.Bound.{Bound}
use Rattle.hp_cases.specs.declared.case.Bound.TheVariants.{Low, High, Same}
use Rattle.hp_cases.specs.Bounds.{head_bound}
use Rattle.hp_index_set.specs.Rules.{has_index_guards, is_convex, reads_at_variables}
use Rattle.hp_pairs.specs.declared.branch.Branch.{Branch}
use Rattle.hp_pairs.specs.declared.branch.Given.{Given}
use Rattle.hp_rules.specs.declared.ruled.ArrayClause.{ArrayClause}
use Rattle.hp_rules.specs.declared.ruled.Ruled.{Ruled}
use Rattle.hp_rules.specs.declared.ruled.RuleErr.{RuleErr}
use Rattle.hp_rules.specs.declared.ruled.RuleErr.TheVariants as refusal

-- a clause breaks a rule alone
abbrev pub broken : ℕ → ℕ → RuleErr
broken clause rule = refusal.Outside (record { clause = clause; rule = rule; other = 0; at = [] })

-- ---- functions
abbrev pub function_place : NameList → Word → Option ℕ
function_place names word = position (bytes_eq word) (function_words names)

abbrev pub application_place : NameList → Application → Option ℕ
application_place names a = function_place names a.func

abbrev pub are_num : List Sort → Bool
are_num sorts = list_all is_num sorts

-- of num to num
abbrev pub is_num_signature : Option Signature → Bool
is_num_signature None = false
is_num_signature (Some s) = are_num s.args && is_num s.result

abbrev pub is_num_function : NameList → Option ℕ → Bool
is_num_function names None = false
is_num_function names (Some func) = is_num_signature (slice_get names.signatures func)

-- the function of an application, where there is one
abbrev pub signature_of : NameList → Application → Option Signature
signature_of names a = option_and_then (λ func. slice_get names.signatures func) (application_place names a)

-- one argument, an index
abbrev pub is_one_index : List Sort → Bool
is_one_index (idx ∷ []) = true
is_one_index _ = false

-- of idx to num
abbrev pub is_array_signature : Option Signature → Bool
is_array_signature None = false
is_array_signature (Some s) = is_one_index s.args && is_num s.result

abbrev pub is_array_application : NameList → Application → Bool
is_array_application names a = is_array_signature (signature_of names a)

abbrev pub has_level : ℕ → Option Signature → Bool
has_level level None = false
has_level level (Some s) = nat_eq s.level level

-- ---- monotone shape
abbrev pub form_over : FlatClause → Word → Option Word
form_over c word = option_map (λ (form : Form). word) (form_of word c.vars c.guard c.head)

abbrev pub first_word : List Application → Option Word
first_word [] = None
first_word (a ∷ more) = Some a.func

-- the function of a clause of monotone shape, by its place in the order of declarations, counted from 0
abbrev pub monotone_place : NameList → FlatClause → Option ℕ
monotone_place names c = option_and_then (function_place names) (option_and_then (form_over c) (first_word (clause_applications c)))

abbrev pub with_place : Option ℕ → List ℕ → List ℕ
with_place None places = places
with_place (Some func) places = func ∷ places

-- those of all clauses
abbrev pub monotone_places : NameList → List FlatClause → List ℕ
monotone_places names [] = []
monotone_places names (c ∷ cs) = with_place (monotone_place names c) (monotone_places names cs)

-- ---- literals
-- the names of the arguments stand behind all others
abbrev pub rule_words : NameList → List Word
rule_words names = words names ++ argument_words

abbrev pub num_rows : List Lit → List NumLit
num_rows [] = []
num_rows (Num l ∷ ls) = l ∷ num_rows ls
num_rows (Idx l ∷ ls) = num_rows ls
num_rows (Ptr l ∷ ls) = num_rows ls

-- those of atoms that are to be true
abbrev pub rows_of : List Word → List Atom → Refusable (List NumLit)
rows_of words [] = Ok []
rows_of words (atom ∷ atoms) = literals words true atom >>= λ lits. rows_of words atoms >>= λ more. Ok (num_rows lits ++ more)

-- ---- equal literals
abbrev pub same_rel : Rel → Rel → Bool
same_rel rel.Le rel.Le = true
same_rel rel.Lt rel.Lt = true
same_rel rel.Eq rel.Eq = true
same_rel _ _ = false

abbrev pub same_parts : List Part → List Part → Bool
same_parts [] [] = true
same_parts [] (q ∷ qs) = false
same_parts (p ∷ ps) [] = false
same_parts (p ∷ ps) (q ∷ qs) = (nat_eq p.name.0 q.name.0 && int_eq p.coef q.coef) && same_parts ps qs

abbrev pub same_row : NumLit → NumLit → Bool
same_row l m = same_rel l.rel m.rel && same_parts l.parts m.parts && int_eq l.bound m.bound

abbrev pub same_rows : List NumLit → List NumLit → Bool
same_rows [] [] = true
same_rows [] (m ∷ ms) = false
same_rows (l ∷ ls) [] = false
same_rows (l ∷ ls) (m ∷ ms) = same_row l m && same_rows ls ms

-- ---- cases
abbrev pub given : ℕ → Term → Given
given clause term = record { clause = clause; term = term }

abbrev pub first_row : List NumLit → Option NumLit
first_row [] = None
first_row (l ∷ ls) = Some l

-- the upper bound is below the lower one, where its literal can be formed
abbrev pub gap_of : List Word → Term → Term → Refusable (List NumLit)
gap_of words low high = rows_of words (record { left = high; cmp = Lt; right = low } ∷ [])

abbrev pub with_gap : Branch → Refusable (List NumLit) → Option Branch
with_gap b (Ok rows) = Some (record { func = b.func; args = b.args; clause = b.clause; guard = b.guard; rows = b.rows; low = b.low; high = b.high; gap = first_row rows })
with_gap b (Err e) = None

-- the case with a lower and an upper bound, which two clauses give
abbrev pub bounded : Branch → Option Given → Option Given → Branch
bounded b low high = record { func = b.func; args = b.args; clause = b.clause; guard = b.guard; rows = b.rows; low = low; high = high; gap = b.gap }

abbrev pub with_low : List Word → ℕ → Term → Branch → Option Given → Option Given → Option Branch
with_low words clause t b (Some low) high = None
with_low words clause t b None None = Some (bounded b (Some (given clause t)) None)
with_low words clause t b None (Some high) = with_gap (bounded b (Some (given clause t)) (Some high)) (gap_of words t high.term)

abbrev pub with_high : List Word → ℕ → Term → Branch → Option Given → Option Given → Option Branch
with_high words clause t b low (Some high) = None
with_high words clause t b None None = Some (bounded b None (Some (given clause t)))
with_high words clause t b (Some low) None = with_gap (bounded b (Some low) (Some (given clause t))) (gap_of words low.term t)

abbrev pub with_same : ℕ → Term → Branch → Option Given → Option Given → Option Branch
with_same clause t b None None = Some (bounded b (Some (given clause t)) (Some (given clause t)))
with_same clause t b _ _ = None

-- a further bound, which the case has not yet
abbrev pub with_bound : List Word → ℕ → Bound → Branch → Option Branch
with_bound words clause (Low t) b = with_low words clause t b b.low b.high
with_bound words clause (High t) b = with_high words clause t b b.low b.high
with_bound words clause (Same t) b = with_same clause t b b.low b.high

-- a case without bounds
abbrev pub new_branch : ℕ → ℕ → FlatClause → List NumLit → Branch
new_branch func args c rows = record { func = func; args = args; clause = c.clause; guard = c.guard; rows = rows; low = None; high = None; gap = None }

abbrev pub behind_branch : Branch → Option (List Branch) → Option (List Branch)
behind_branch b later = option_map (λ bs. b ∷ bs) later

-- the bound in the case of its function with the same rows, or in a new one behind the others; none where the case has such a bound
abbrev pub with_case : List Word → ℕ → ℕ → FlatClause → List NumLit → Bound → List Branch → Option (List Branch)
with_case words func args c rows bound [] = option_map (λ b. b ∷ []) (with_bound words c.clause bound (new_branch func args c rows))
with_case words func args c rows bound (b ∷ bs) =
    if nat_eq b.func func && same_rows b.rows rows then option_map (λ x. x ∷ bs) (with_bound words c.clause bound b)
    else behind_branch b (with_case words func args c rows bound bs)

-- ---- clauses one by one
abbrev pub nothing_ruled : Ruled
nothing_ruled = record { owned = []; branches = []; clauses = []; arrays = [] }

-- the own functions of a monotone clause
abbrev pub with_monotone : Ruled → ℕ → Ruled
with_monotone ruled func = record { owned = func ∷ ruled.owned; branches = ruled.branches; clauses = ruled.clauses; arrays = ruled.arrays }

-- and of a clause of a case
abbrev pub with_branches : Ruled → ℕ → FlatClause → List Branch → Ruled
with_branches ruled func c branches =
    record { owned = func ∷ ruled.owned; branches = branches; clauses = ruled.clauses ++ record { func = func; clause = c } ∷ []; arrays = ruled.arrays }

-- and a clause over arrays
abbrev pub with_array : Ruled → ArrayClause → Ruled
with_array ruled k = record { owned = ruled.owned; branches = ruled.branches; clauses = ruled.clauses; arrays = ruled.arrays ++ k ∷ [] }

-- rule 7: the case has not two bounds of one kind, and upper minus lower can be formed
abbrev pub placed : Ruled → ℕ → FlatClause → Option (List Branch) → Result Ruled RuleErr
placed ruled func c None = Err (broken c.clause 7)
placed ruled func c (Some branches) = Ok (with_branches ruled func c branches)

-- the literals of the guard, which were formed before but for their signs
abbrev pub read_rows : NameList → Ruled → ℕ → ℕ → FlatClause → Bound → Refusable (List NumLit) → Result Ruled RuleErr
read_rows names ruled func args c bound (Ok rows) = placed ruled func c (with_case (rule_words names) func args c rows bound ruled.branches)
read_rows names ruled func args c bound (Err e) = Err (refusal.Limit (coefficient c.item))

-- rule 7: the head bounds the function
abbrev pub read_head : NameList → Ruled → ℕ → ℕ → FlatClause → Option Bound → Result Ruled RuleErr
read_head names ruled func args c None = Err (broken c.clause 7)
read_head names ruled func args c (Some bound) = read_rows names ruled func args c bound (rows_of (rule_words names) c.guard)

abbrev pub is_empty : {A : Type 0} → List A → Bool
is_empty [] = true
is_empty (x ∷ xs) = false

-- a num atom without applications, by any relation but `!=`
abbrev pub is_case_atom : NameList → FlatClause → Atom → Bool
is_case_atom names c atom = is_num (sort_of (clause_scope names c.vars) atom) && is_convex atom.cmp && is_empty (atoms_applications (atom ∷ []))

-- rule 6, of a clause with this application
abbrev pub read_guard : NameList → Ruled → ℕ → Application → FlatClause → Result Ruled RuleErr
read_guard names ruled func a c =
    if list_all (is_case_atom names c) c.guard then read_head names ruled func (length a.args) (flattened a c) (head_bound a.func (flattened a c).head)
    else Err (broken c.clause 6)

abbrev pub read_at : NameList → Ruled → Application → FlatClause → Option ℕ → Result Ruled RuleErr
read_at names ruled a c None = Err (broken c.clause 3)
read_at names ruled a c (Some func) = if are_arguments c.vars a.args then read_guard names ruled func a c else Err (broken c.clause 5)

-- rule 5: one application
abbrev pub read_case : NameList → Ruled → FlatClause → List Application → Result Ruled RuleErr
read_case names ruled c (a ∷ []) = read_at names ruled a c (application_place names a)
read_case names ruled c _ = Err (broken c.clause 5)

-- a function with a clause of monotone shape, which is own in an earlier clause
abbrev pub is_taken : List ℕ → List ℕ → Option ℕ → Bool
is_taken monotone owned None = false
is_taken monotone owned (Some func) = is_place monotone func && is_place owned func

abbrev pub read_owned : NameList → Ruled → FlatClause → List Application → Option ℕ → Result Ruled RuleErr
read_owned names ruled c apps (Some func) = Ok (with_monotone ruled func)
read_owned names ruled c apps None = read_case names ruled c apps

-- rule 4: no second clause of a function with one of monotone shape
abbrev pub read_nums : NameList → List ℕ → Ruled → FlatClause → List Application → Result Ruled RuleErr
read_nums names monotone ruled c apps =
    if list_any (λ a. is_taken monotone ruled.owned (application_place names a)) apps then Err (broken c.clause 4)
    else read_owned names ruled c apps (monotone_place names c)

-- the functions of applications, by their places
abbrev pub application_places : NameList → List Application → List ℕ
application_places names [] = []
application_places names (a ∷ more) = with_place (application_place names a) (application_places names more)

abbrev pub array_clause : NameList → ℕ → FlatClause → List Application → ArrayClause
array_clause names level c apps = record { level = level; funcs = application_places names apps; clause = c }

-- rules 2, 10 and 11: arrays of one level, guards that bound indexes, and arrays read at variables
abbrev pub read_arrays : NameList → Ruled → FlatClause → List Application → ℕ → Result Ruled RuleErr
read_arrays names ruled c apps level =
    if not (list_all (λ a. has_level level (signature_of names a)) apps) then Err (broken c.clause 2)
    else if not (has_index_guards names c) then Err (broken c.clause 10)
    else if not (reads_at_variables names c) then Err (broken c.clause 11)
    else Ok (with_array ruled (array_clause names level c apps))

abbrev pub read_level : NameList → Ruled → FlatClause → List Application → Option Signature → Result Ruled RuleErr
read_level names ruled c apps None = Err (broken c.clause 3)
read_level names ruled c apps (Some s) = read_arrays names ruled c apps s.level

-- rule 3: the functions are all of num to num, or all of idx to num
abbrev pub read_functions : NameList → List ℕ → Ruled → FlatClause → Application → List Application → Result Ruled RuleErr
read_functions names monotone ruled c a more =
    if list_all (λ b. is_num_function names (application_place names b)) (a ∷ more) then read_nums names monotone ruled c (a ∷ more)
    else if list_all (is_array_application names) (a ∷ more) then read_level names ruled c (a ∷ more) (signature_of names a)
    else Err (broken c.clause 3)

-- rule 1: an application is left
abbrev pub read_applications : NameList → List ℕ → Ruled → FlatClause → List Application → Result Ruled RuleErr
read_applications names monotone ruled c [] = Err (broken c.clause 1)
read_applications names monotone ruled c (a ∷ more) = read_functions names monotone ruled c a more

abbrev pub read_clause : NameList → List ℕ → Ruled → FlatClause → Result Ruled RuleErr
read_clause names monotone ruled c = read_applications names monotone ruled c (clause_applications c)

abbrev pub read_clauses : NameList → List ℕ → Ruled → List FlatClause → Result Ruled RuleErr
read_clauses names monotone ruled [] = Ok ruled
read_clauses names monotone ruled (c ∷ cs) = read_clause names monotone ruled c >>= λ next. read_clauses names monotone next cs

-- ---- arrays
-- a clause over arrays applies the function
abbrev pub is_array : Ruled → ℕ → Bool
is_array ruled func = list_any (λ k. is_place k.funcs func) ruled.arrays

-- ---- all clauses
-- what the clauses are, or the first of them that breaks a rule, with the first one that it breaks
abbrev pub rules : NameList → List FlatClause → Result Ruled RuleErr
rules names clauses = read_clauses names (monotone_places names clauses) nothing_ruled clauses
