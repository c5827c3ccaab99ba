-- What clauses over arrays are once they are read: the arrays of a level, and their group.
use Rattle.std.proofs.Common.{◌≡◌, ◌∙◌, ◌⊎◌, ◌&&◌, ◌||◌, ◌<◌, inl, inr, ℕ, nat_eq, Bool, true, false, List, [], ◌∷◌, ◌++◌, length, Option, Some, None, refl, sym, ap, subst}
use Rattle.std.specs.Prelude.{option_and_then, slice_get}
use Rattle.std.specs.List.{All, AllZip, Contains, filter, list_all, list_any}
use Rattle.std.specs.Str.{bytes_eq}
use Rattle.std.proofs.lemmas.Bool.{and_from, and_parts, eqb-true, eq-eqb, or_left, or_right}
use Rattle.std.proofs.lemmas.List.Elements.{All-append, All-cons, All-contains, All-contains_itself, All-head, All-nil, All-tail, All-weaker, filter_passes}
use Rattle.std.proofs.lemmas.Option.{none-some, same_Some, slice_get_within}
use Rattle.hp_names.proofs.Texts.{text_same}
use Rattle.hp_tree.specs.declared.problem.Sort.{Sort}
use Rattle.hp_tree.specs.declared.problem.Sort.TheVariants.{Num, Idx, Ptr}
use Rattle.hp_tree.specs.Value.{Word}
use Rattle.hp_local.specs.Frame.{is_own}
use Rattle.hp_local.proofs.Lists.{All-by, contains_cases, contains_filter, contains_first, contains_later, contains_map, contains_none, filter_contains, map_contains}
use Rattle.hp_defs.specs.declared.names.Signature.{Signature}
use Rattle.hp_defs.specs.Names.{NameList, function_words}
use Rattle.hp_norm.specs.declared.flat.FlatClause.{FlatClause}
use Rattle.hp_norm.specs.Flat.{IsFlat}
use Rattle.hp_class.specs.Frame.{is_function, is_place, signature_word, words_at}
use Rattle.hp_class.proofs.Facts.{word_there}
use Rattle.hp_flatten.specs.declared.application.Application.{Application}
use Rattle.hp_flatten.specs.Applications.{clause_applications}
use Rattle.hp_flatten.specs.Sorts.{is_num}
use Rattle.hp_flatten.proofs.IsFlat.{flattened_is_flat}
use Rattle.hp_flatten.proofs.One.{flattened_has_one}
use Rattle.hp_index_set.specs.Rules.{has_index_guards, reads_at_variables}
use Rattle.hp_arrays.specs.Arrays.{IsArray, IsArrayClause, IsArrayGroup, IsRead}
use Rattle.hp_pairs.specs.declared.branch.Branch.{Branch}
use Rattle.hp_pairs.specs.Branches.{branches_of}
use Rattle.hp_rules.specs.declared.ruled.ArrayClause.{ArrayClause}
use Rattle.hp_rules.specs.declared.ruled.Ruled.{Ruled}
use Rattle.hp_rules.specs.Rules.{application_place, application_places, has_level, is_array, is_array_application, is_array_signature, is_num_function, is_one_index, monotone_place, monotone_places, nothing_ruled, signature_of, with_place}
use Rattle.hp_ruled.specs.Laws.{AreRuled, ArraysAreClauses, ArraysAreGroups, ArraysAreKnown, ClausesHaveArrays, HasArrays, HasFewVariables, array_clause_of, array_clauses, own_arrays, place_words}
use Rattle.hp_ruled.proofs.Applications.{num_signature}
use Rattle.hp_ruled.proofs.Branches.{BranchSays, all_say}
use Rattle.hp_ruled.proofs.Owning.{a_case}
use Rattle.hp_ruled.proofs.Reading.{Read, all_keep}
use Rattle.hp_ruled.proofs.Shapes.{form_nums, place_form, word_at}

-- ---- lists
-- a test that one of a list passes
found_any : {X : Type 0} (test : X → Bool) (xs : List X) → list_any test xs ≡ true → (x : X) × Contains xs x × (test x ≡ true)
found_any test [] h = absurd (cc)
found_any test (x ∷ xs) h = by (test x) refl h (λ g. found_any test xs g)
  where
    by : (b : Bool) → test x ≡ b → (b || list_any test xs) ≡ true → (list_any test xs ≡ true → (y : _) × Contains xs y × (test y ≡ true)) → (y : _) × Contains (x ∷ xs) y × (test y ≡ true)
    by true e g rest = (x, contains_first x xs, e)
    by false e g rest = let w = rest g in (w.0, contains_later x xs w.0 w.1, w.2)

pub any_found : {X : Type 0} (test : X → Bool) (xs : List X) (x : X) → Contains xs x → test x ≡ true → list_any test xs ≡ true
any_found test [] x m h = absurd (contains_none x m)
any_found test (y ∷ xs) x m h = elim (contains_cases y xs x m) [
  | inl e ↦ or_left (test y) (list_any test xs) (ap test e ∙ h)
  | inr l ↦ or_right (test y) (list_any test xs) (any_found test xs x l h)
]

all_passed : {X : Type 0} (test : X → Bool) (xs : List X) (x : X) → list_all test xs ≡ true → Contains xs x → test x ≡ true
all_passed test [] x h m = absurd (contains_none x m)
all_passed test (y ∷ xs) x h m =
    let both = and_parts (test y) (list_all test xs) h in
    elim (contains_cases y xs x m) [
      | inl e ↦ ap test (sym e) ∙ both.0
      | inr l ↦ all_passed test xs x both.1 l
    ]

-- ---- clauses
-- what is so of a clause over arrays that was read
record IsArrayRead (names : NameList) (clauses : List FlatClause) (k : ArrayClause) : Type 0 where
  among : Contains clauses k.clause
  first : Application
  more : List Application
  applications : clause_applications k.clause ≡ first ∷ more
  arrays : list_all (is_array_application names) (clause_applications k.clause) ≡ true
  levels : list_all (λ a. has_level k.level (signature_of names a)) (clause_applications k.clause) ≡ true
  guards : has_index_guards names k.clause ≡ true
  reads : reads_at_variables names k.clause ≡ true
  funcs : k.funcs ≡ application_places names (clause_applications k.clause)

module _ (names : NameList) (clauses : List FlatClause) (ruled : Ruled) (are : AreRuled names clauses ruled) where
  abbrev monotone : List ℕ
  monotone = monotone_places names clauses

  abbrev AreRead : Ruled → Type 0
  AreRead r = All (IsArrayRead names clauses) r.arrays

  arrays_more : (done : List FlatClause) (before : Ruled) (c : FlatClause) (after : Ruled) → Contains clauses c → AreRead before → Read names monotone before c after → AreRead after
  arrays_more done before c after among all (inl r) = subst AreRead r.is all
  arrays_more done before c after among all (inr (inl r)) = subst AreRead r.is all
  arrays_more done before c after among all (inr (inr r)) =
      let k : ArrayClause = record { level = r.level; funcs = application_places names (r.first ∷ r.more); clause = c } in
      let back = sym r.applications in
      subst AreRead r.is
      (All-append (IsArrayRead names clauses) before.arrays (k ∷ []) all
      (All-cons (IsArrayRead names clauses) k [] (record {
        among = among;
        first = r.first;
        more = r.more;
        applications = r.applications;
        arrays = ap (list_all (is_array_application names)) r.applications ∙ r.arrays;
        levels = ap (list_all (λ (a : Application). has_level r.level (signature_of names a))) r.applications ∙ r.levels;
        guards = r.guards;
        reads = r.reads;
        funcs = ap (application_places names) back;
      }) (All-nil (IsArrayRead names clauses))))

  all_arrays : AreRead ruled
  all_arrays = all_keep names monotone (Contains clauses) (λ done r. AreRead r) arrays_more [] clauses nothing_ruled ruled (All-contains_itself clauses) (All-nil (IsArrayRead names clauses)) are.ruled_is

-- ---- the functions of applications
module _ (names : NameList) where
  -- an application of a list, by the place of its function
  record IsAppliedAt (apps : List Application) (func : ℕ) : Type 0 where
    application : Application
    among : Contains apps application
    place : application_place names application ≡ Some func

  applied_at : (apps : List Application) (func : ℕ) → Contains (application_places names apps) func → IsAppliedAt apps func
  applied_at [] func m = absurd (contains_none func m)
  applied_at (a ∷ apps) func m = by (application_place names a) refl m (λ l. applied_at apps func l)
    where
      later : IsAppliedAt apps func → IsAppliedAt (a ∷ apps) func
      later w = record { application = w.application; among = contains_later a apps w.application w.among; place = w.place }

      by : (o : Option ℕ) → application_place names a ≡ o → Contains (with_place o (application_places names apps)) func → (Contains (application_places names apps) func → IsAppliedAt apps func)
          → IsAppliedAt (a ∷ apps) func
      by None e l rest = later (rest l)
      by (Some f) e l rest = elim (contains_cases f (application_places names apps) func l) [
        | inl is ↦ record { application = a; among = contains_first a apps; place = e ∙ ap (λ k. Some k) is }
        | inr l ↦ later (rest l)
      ]

  place_there : (apps : List Application) (a : Application) (func : ℕ) → Contains apps a → application_place names a ≡ Some func → Contains (application_places names apps) func
  place_there [] a func m e = absurd (contains_none a m)
  place_there (b ∷ apps) a func m e = by (application_place names b) refl (contains_cases b apps a m) (λ l. place_there apps a func l e)
    where
      by : (o : Option ℕ) → application_place names b ≡ o → (b ≡ a) ⊎ Contains apps a → (Contains apps a → Contains (application_places names apps) func)
          → Contains (with_place o (application_places names apps)) func
      by None f (inl is) rest = absurd (none-some func (sym f ∙ ap (application_place names) is ∙ e))
      by None f (inr l) rest = rest l
      by (Some g) f (inl is) rest =
          let same : g ≡ func = same_Some g func (sym f ∙ ap (application_place names) is ∙ e) in
          subst (λ k. Contains (g ∷ application_places names apps) k) same (contains_first g (application_places names apps))
      by (Some g) f (inr l) rest = contains_later g (application_places names apps) func (rest l)

  -- the function of an application of an array
  record IsArrayFunction (func : ℕ) : Type 0 where
    signature : Signature
    known : slice_get names.signatures func ≡ Some signature
    arguments : signature.args ≡ Idx ∷ []
    result : signature.result ≡ Num

  one_index : (sorts : List Sort) → is_one_index sorts ≡ true → sorts ≡ Idx ∷ []
  one_index [] h = absurd (cc)
  one_index (Num ∷ sorts) h = absurd (cc)
  one_index (Ptr ∷ sorts) h = absurd (cc)
  one_index (Idx ∷ []) h = refl
  one_index (Idx ∷ s ∷ sorts) h = absurd (cc)

  num_result : (s : Sort) → is_num s ≡ true → s ≡ Num
  num_result Num h = refl
  num_result Idx h = absurd (cc)
  num_result Ptr h = absurd (cc)

  array_function : (a : Application) (func : ℕ) → application_place names a ≡ Some func → is_array_application names a ≡ true → IsArrayFunction func
  array_function a func place h =
      by (slice_get names.signatures func) refl (sym (ap (λ (o : Option ℕ). is_array_signature (option_and_then (λ k. slice_get names.signatures k) o)) place) ∙ h)
    where
      by : (o : Option Signature) → slice_get names.signatures func ≡ o → is_array_signature o ≡ true → IsArrayFunction func
      by None e g = absurd (cc)
      by (Some s) e g =
          let both = and_parts (is_one_index s.args) (is_num s.result) g in
          record { signature = s; known = e; arguments = one_index s.args both.0; result = num_result s.result both.1 }

  -- each application of an array has a place
  place_of : (a : Application) → is_array_application names a ≡ true → (func : ℕ) × (application_place names a ≡ Some func)
  place_of a h = by (application_place names a) refl h
    where
      by : (o : Option ℕ) → application_place names a ≡ o → is_array_signature (option_and_then (λ k. slice_get names.signatures k) o) ≡ true → (func : ℕ) × (application_place names a ≡ Some func)
      by None e g = absurd (cc)
      by (Some func) e g = (func, e)

  on_level : (level : ℕ) (a : Application) (func : ℕ) → application_place names a ≡ Some func → has_level level (signature_of names a) ≡ true → has_level level (slice_get names.signatures func) ≡ true
  on_level level a func place h = sym (ap (λ (o : Option ℕ). has_level level (option_and_then (λ k. slice_get names.signatures k) o)) place) ∙ h

  -- ---- words
  same_words : (funcs : List ℕ) → words_at names funcs ≡ place_words names.signatures funcs
  same_words [] = refl
  same_words (func ∷ funcs) = ap (λ (ws : List Word). signature_word (slice_get names.signatures func) ++ ws) (same_words funcs)

  -- the test of words, from the first function on
  pub first_test : (func : ℕ) (funcs : List ℕ) (s : Signature) (word : Word) → slice_get names.signatures func ≡ Some s
      → is_function names (func ∷ funcs) word ≡ (bytes_eq s.name word || is_function names funcs word)
  first_test func funcs s word known = ap (λ (o : Option Signature). is_own (signature_word o ++ words_at names funcs) word) known

  abbrev pub IsKnown : ℕ → Type 0
  IsKnown func = (s : Signature) × (slice_get names.signatures func ≡ Some s)

  -- the word of one of these functions passes it
  pub owned : (funcs : List ℕ) (func : ℕ) (s : Signature) → Contains funcs func → slice_get names.signatures func ≡ Some s → All IsKnown funcs → is_function names funcs s.name ≡ true
  owned [] func s m known all = absurd (contains_none func m)
  owned (k ∷ funcs) func s m known all =
      let head = All-head IsKnown k funcs all in
      let rest = λ (later : Contains funcs func). owned funcs func s later known (All-tail IsKnown k funcs all) in
      first_test k funcs head.0 s.name head.1
      ∙ elim (contains_cases k funcs func m) [
        | inl same ↦ (
            let is : head.0 ≡ s = same_Some head.0 s (sym head.1 ∙ ap (λ i. slice_get names.signatures i) same ∙ known) in
            or_left (bytes_eq head.0.name s.name) (is_function names funcs s.name) (ap (λ (t : Signature). bytes_eq t.name s.name) is ∙ text_same s.name))
        | inr later ↦ or_right (bytes_eq head.0.name s.name) (is_function names funcs s.name) (rest later)
      ]

  -- the word of an application is that of its function
  word_of : (a : Application) (func : ℕ) (s : Signature) → application_place names a ≡ Some func → slice_get names.signatures func ≡ Some s → s.name ≡ a.func
  word_of a func s place known = same_Some s.name a.func (sym (word_there names.signatures func s known) ∙ word_at (function_words names) a.func func place)

-- ---- arrays
pub place_is : (funcs : List ℕ) (func : ℕ) → is_place funcs func ≡ true → Contains funcs func
place_is funcs func h = let w = found_any (λ other. nat_eq other func) funcs h in subst (Contains funcs) (eqb-true w.0 func w.2) w.1

pub is_placed : (funcs : List ℕ) (func : ℕ) → Contains funcs func → is_place funcs func ≡ true
is_placed funcs func m = any_found (λ other. nat_eq other func) funcs func m (eq-eqb func func refl)

module _ (names : NameList) (clauses : List FlatClause) (ruled : Ruled) (are : AreRuled names clauses ruled) where
  -- a clause that applies an array, and the application
  record HasClause (func : ℕ) : Type 0 where
    clause : ArrayClause
    among : Contains ruled.arrays clause
    read : IsArrayRead names clauses clause
    applied : IsAppliedAt names (clause_applications clause.clause) func

  has_clause : (func : ℕ) → is_array ruled func ≡ true → HasClause func
  has_clause func h =
      let w = found_any (λ (k : ArrayClause). is_place k.funcs func) ruled.arrays h in
      let read = All-contains (IsArrayRead names clauses) ruled.arrays w.0 (all_arrays names clauses ruled are) w.1 in
      record { clause = w.0; among = w.1; read = read; applied = applied_at names (clause_applications w.0.clause) func (subst (λ ks. Contains ks func) read.funcs (place_is w.0.funcs func w.2)) }

  is_function_of : (func : ℕ) → is_array ruled func ≡ true → IsArrayFunction names func
  is_function_of func h =
      let c = has_clause func h in
      array_function names c.applied.application func c.applied.place (all_passed (is_array_application names) (clause_applications c.clause.clause) c.applied.application c.read.arrays c.applied.among)

  -- the function of an application of a clause over arrays
  record IsArrayOf (k : ArrayClause) (a : Application) : Type 0 where
    func : ℕ
    place : application_place names a ≡ Some func
    array : is_array ruled func ≡ true
    level : has_level k.level (slice_get names.signatures func) ≡ true

  array_of : (k : ArrayClause) → Contains ruled.arrays k → (a : Application) → Contains (clause_applications k.clause) a → IsArrayOf k a
  array_of k m a n =
      let read = All-contains (IsArrayRead names clauses) ruled.arrays k (all_arrays names clauses ruled are) m in
      let place = place_of names a (all_passed (is_array_application names) (clause_applications k.clause) a read.arrays n) in
      let there = place_there names (clause_applications k.clause) a place.0 n place.1 in
      record {
        func = place.0;
        place = place.1;
        array = any_found (λ (j : ArrayClause). is_place j.funcs place.0) ruled.arrays k m (is_placed k.funcs place.0 (subst (λ ks. Contains ks place.0) (sym read.funcs) there));
        level = on_level names k.level a place.0 place.1 (all_passed (λ (b : Application). has_level k.level (signature_of names b)) (clause_applications k.clause) a read.levels n);
      }

  -- ---- what they are not
  num_not_idx : Num ∷ [] ≡ Idx ∷ [] → ⊥
  num_not_idx e = cc

  no_monotone : (func : ℕ) (f : IsArrayFunction names func) (c : FlatClause) → Contains clauses c → monotone_place names c ≡ Some func → ⊥
  no_monotone func f c m e =
      let p = place_form names c func e in
      let nums = form_nums names clauses ruled are func p.signature p.known c p.form m p.is in
      let same : p.signature ≡ f.signature = same_Some p.signature f.signature (sym p.known ∙ f.known) in
      num_not_idx (sym nums.args ∙ ap (λ (s : Signature). s.args) same ∙ f.arguments)

  no_cases : (func : ℕ) → IsArrayFunction names func → branches_of func ruled.branches ≡ []
  no_cases func f = by (branches_of func ruled.branches) refl
    where
      some : (b : Branch) (bs : List Branch) → b ∷ bs ≡ [] → ⊥
      some b bs e = cc

      index_num : All (λ (s : Sort). s ≡ Num) (Idx ∷ []) → ⊥
      index_num h = let e = All-head (λ (s : Sort). s ≡ Num) Idx [] h in cc

      by : (bs : List Branch) → branches_of func ruled.branches ≡ bs → branches_of func ruled.branches ≡ []
      by [] e = e
      by (b ∷ bs) e =
          let says = all_say flattened_is_flat flattened_has_one names clauses ruled are in
          let num : is_num_function names (Some func) ≡ true =
          a_case func (λ k. is_num_function names (Some k) ≡ true) ruled.branches
          (All-weaker (BranchSays names) (λ (x : Branch). is_num_function names (Some x.func) ≡ true) (λ x says. says.has.num) ruled.branches says.branches) (λ none. some b bs (sym e ∙ none)) in
          let s = num_signature names func num in
          let same : s.signature ≡ f.signature = same_Some s.signature f.signature (sym s.there ∙ f.known) in
          absurd (index_num (subst (λ sorts. All (λ (x : Sort). x ≡ Num) sorts) (ap (λ (t : Signature). t.args) same ∙ f.arguments) s.nums))

pub arrays_are_clauses : ArraysAreClauses
arrays_are_clauses names clauses ruled are =
    All-weaker (IsArrayRead names clauses) (λ (k : ArrayClause). Contains clauses k.clause) (λ k r. r.among) ruled.arrays (all_arrays names clauses ruled are)

pub arrays_are_known : ArraysAreKnown
arrays_are_known names clauses ruled are func h =
    let f = is_function_of names clauses ruled are func h in
    record {
      signature = f.signature;
      known = f.known;
      arguments = f.arguments;
      result = f.result;
      no_monotone = no_monotone names clauses ruled are func f;
      no_cases = no_cases names clauses ruled are func f;
    }

pub clauses_have_arrays : ClausesHaveArrays
clauses_have_arrays names clauses ruled are = All-by (HasArrays names) ruled.arrays (λ k m. (
    let read = All-contains (IsArrayRead names clauses) ruled.arrays k (all_arrays names clauses ruled are) m in
    let first = subst (λ apps. Contains apps read.first) (sym read.applications) (contains_first read.first read.more) in
    let one = array_of names clauses ruled are k m read.first first in
    record {
      first = one.func;
      among = subst (λ ks. Contains ks one.func) (sym read.funcs) (place_there names (clause_applications k.clause) read.first one.func first one.place);
      each = All-by (λ (func : ℕ). has_level k.level (slice_get names.signatures func) ≡ true) k.funcs (λ func n. (
          let w = applied_at names (clause_applications k.clause) func (subst (λ ks. Contains ks func) read.funcs n) in
          on_level names k.level w.application func w.place
          (all_passed (λ (b : Application). has_level k.level (signature_of names b)) (clause_applications k.clause) w.application read.levels w.among)));
    }))

-- ---- the group of a level
module _ (names : NameList) (clauses : List FlatClause) (ruled : Ruled) (are : AreRuled names clauses ruled) (order : List ℕ)
    (whole : (func : ℕ) → func < length names.signatures → Contains order func) (level : ℕ) where
  abbrev its : ℕ → Bool
  its func = is_array ruled func && has_level level (slice_get names.signatures func)

  abbrev own : List ℕ
  own = own_arrays ruled names.signatures order level

  abbrev Its : ℕ → Type 0
  Its func = its func ≡ true

  all_its : All Its own
  all_its = filter_passes its order

  array_its : (func : ℕ) → Its func → is_array ruled func ≡ true
  array_its func h = (and_parts (is_array ruled func) (has_level level (slice_get names.signatures func)) h).0

  known_its : (func : ℕ) → Its func → IsKnown names func
  known_its func h = let f = is_function_of names clauses ruled are func (array_its func h) in (f.signature, f.known)

  -- each has its word
  zipped : (funcs : List ℕ) → All Its funcs → AllZip (IsArray names) funcs (place_words names.signatures funcs)
  zipped [] all = tt
  zipped (func ∷ funcs) all =
      let f = is_function_of names clauses ruled are func (array_its func (All-head Its func funcs all)) in
      let here : IsArray names func f.signature.name = record { signature = f.signature; known = f.known; name = refl; arguments = f.arguments; result = f.result } in
      subst (λ (o : Option Signature). AllZip (IsArray names) (func ∷ funcs) (signature_word o ++ place_words names.signatures funcs)) (sym f.known) (here, zipped funcs (All-tail Its func funcs all))

  same_level : (l : ℕ) (o : Option Signature) → has_level l o ≡ true → has_level level o ≡ true → l ≡ level
  same_level l None h k = absurd (cc)
  same_level l (Some s) h k = sym (eqb-true s.level l h) ∙ eqb-true s.level level k

  -- its clauses
  applies_own : (k : ArrayClause) → Contains ruled.arrays k → k.level ≡ level → (a : Application) → Contains (clause_applications k.clause) a → is_function names own a.func ≡ true
  applies_own k m e a n =
      let w = array_of names clauses ruled are k m a n in
      let f = is_function_of names clauses ruled are w.func w.array in
      let on = subst (λ l. has_level l (slice_get names.signatures w.func) ≡ true) e w.level in
      let there = contains_filter its order w.func (whole w.func (slice_get_within names.signatures w.func f.signature f.known))
      (and_from (is_array ruled w.func) (has_level level (slice_get names.signatures w.func)) w.array on) in
      ap (is_function names own) (sym (word_of names a w.func f.signature w.place f.known))
      ∙ owned names own w.func f.signature there f.known (All-weaker Its (IsKnown names) known_its own all_its)

  one_clause : (c : FlatClause) → Contains (array_clauses level ruled.arrays) c → IsArrayClause names own c
  one_clause c m =
      let w = map_contains array_clause_of (filter (λ (k : ArrayClause). nat_eq k.level level) ruled.arrays) c m in
      let k = filter_contains (λ (j : ArrayClause). nat_eq j.level level) ruled.arrays w.0 w.1 in
      let read = All-contains (IsArrayRead names clauses) ruled.arrays w.0 (all_arrays names clauses ruled are) k.0 in
      subst (IsArrayClause names own) w.2
      (record {
        flat = All-contains (IsFlat names) clauses w.0.clause are.flat read.among;
        few = All-contains HasFewVariables clauses w.0.clause are.narrow read.among;
        guards = read.guards;
        reads = read.reads;
        owned = All-by (λ (a : Application). is_function names own a.func ≡ true) (clause_applications w.0.clause) (applies_own w.0 k.0 (eqb-true w.0.level level k.1));
      })

  one_read : (func : ℕ) (s : Signature) → Its func → slice_get names.signatures func ≡ Some s → IsRead (array_clauses level ruled.arrays) s.name
  one_read func s h known =
      let c = has_clause names clauses ruled are func (array_its func h) in
      let on = (and_parts (is_array ruled func) (has_level level (slice_get names.signatures func)) h).1 in
      let a = array_of names clauses ruled are c.clause c.among c.applied.application c.applied.among in
      let same : a.func ≡ func = same_Some a.func func (sym a.place ∙ c.applied.place) in
      let level_is = same_level c.clause.level (slice_get names.signatures func) (subst (λ k. has_level c.clause.level (slice_get names.signatures k) ≡ true) same a.level) on in
      record {
        clause = c.clause.clause;
        among = contains_map array_clause_of (filter (λ (k : ArrayClause). nat_eq k.level level) ruled.arrays) c.clause
            (contains_filter (λ (k : ArrayClause). nat_eq k.level level) ruled.arrays c.clause c.among (eq-eqb c.clause.level level level_is));
        application = c.applied.application;
        applied = c.applied.among;
        function = sym (word_of names c.applied.application func s c.applied.place known);
      }

  all_read : (funcs : List ℕ) → All Its funcs → All (IsRead (array_clauses level ruled.arrays)) (place_words names.signatures funcs)
  all_read [] all = All-nil (IsRead (array_clauses level ruled.arrays))
  all_read (func ∷ funcs) all =
      let here = All-head Its func funcs all in
      let f = known_its func here in
      subst (λ (o : Option Signature). All (IsRead (array_clauses level ruled.arrays)) (signature_word o ++ place_words names.signatures funcs)) (sym f.1)
      (All-cons (IsRead (array_clauses level ruled.arrays)) f.0.name (place_words names.signatures funcs) (one_read func f.0 here f.1) (all_read funcs (All-tail Its func funcs all)))

  group : IsArrayGroup names own (place_words names.signatures own) (array_clauses level ruled.arrays)
  group = record {
    functions = zipped own all_its;
    all = All-by (IsArrayClause names own) (array_clauses level ruled.arrays) one_clause;
    read = all_read own all_its;
  }

pub arrays_are_groups : ArraysAreGroups
arrays_are_groups names clauses ruled are order whole level = group names clauses ruled are order whole level
