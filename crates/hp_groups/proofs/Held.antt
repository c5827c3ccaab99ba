-- The groups of functions in an order: which functions each of them has, and its clauses and tables.
use Rattle.std.proofs.Common.{◌≡◌, ◌∙◌, ◌⊎◌, ◌&&◌, ◌||◌, ◌<◌, inl, inr, ℕ, zero, nat_eq, Bool, true, false, if◌then◌else◌, List, [], ◌∷◌, ◌++◌, map, length, arith, suc, Option, Some, None, refl, sym, ap, subst}
use Rattle.std.specs.Prelude.{slice_get}
use Rattle.std.specs.List.{All, Contains, filter, flat_map}
use Rattle.std.proofs.lemmas.Bool.{and_from, and_parts, eq-eqb, eqb-true, ne_eqb, true≢false}
use Rattle.std.proofs.lemmas.List.Elements.{All-append, All-cons, All-contains, All-head, All-nil, All-tail, Contains-append_left, Contains-append_right, filter_passes}
use Rattle.std.proofs.lemmas.Option.{none-some, same_Some, slice_get_within}
use Rattle.hp_lit.specs.Truth.{Values}
use Rattle.hp_model.specs.declared.structure.Table.{Table}
use Rattle.hp_local.proofs.Lists.{All-by, contains_cases, contains_filter, contains_first, contains_map, contains_none, filter_contains, map_contains}
use Rattle.hp_defs.specs.declared.names.Signature.{Signature}
use Rattle.hp_defs.specs.Names.{NameList}
use Rattle.hp_norm.specs.declared.flat.FlatClause.{FlatClause}
use Rattle.hp_class.specs.Frame.{is_place, signature_word}
use Rattle.hp_class.specs.Small.{HasFewArguments}
use Rattle.hp_tables.specs.Classes.{step_tables}
use Rattle.hp_arrays.specs.Arrays.{arrays_tables}
use Rattle.hp_rules.specs.declared.ruled.ArrayClause.{ArrayClause}
use Rattle.hp_rules.specs.Rules.{has_level, is_array, monotone_place}
use Rattle.hp_ruled.specs.Laws.{HasArrays, IsOfCases, IsOverArrays, array_clause_of, array_clauses, own_arrays, place_words}
use Rattle.hp_ruled.proofs.Arrays.{any_found, arrays_are_clauses, arrays_are_groups, clauses_have_arrays, is_placed, place_is}
use Rattle.hp_ruled.proofs.Sources.{clauses_read}
use Rattle.hp_groups.specs.declared.group.Group.{Group}
use Rattle.hp_groups.specs.contracts.group.GroupLocalClass.TheImpl.{ghosts}
use Rattle.hp_groups.specs.Groups.{Reading, array_group, arrays_once, function_tables, group_at, group_from, group_with_arrays, groups_from, groups_of, levels_after, with_level}
use Rattle.hp_groups.specs.Laws.{AllTablesAreGiven, ClausesAreHeld, FunctionsHaveTables, GroupsAreLent, GroupsAreThere, GroupsGiveTables, GroupsHaveOwn, GroupsHold, GroupsOwnAll, HasOwn, HoldsFlat, IsFellow, IsHeld, IsReadable}
use Rattle.hp_groups.proofs.Classes.{IsHeldAlone, applied_none, case_held, group_holds, group_lent, monotone_held, own_is, single_table, there}

-- ---- the group of a function
module _ (read : Reading) (ss : List Signature) (order : List ℕ) (func : ℕ) (s : Signature) where
  array_is : is_array read.ruled func ≡ true → group_with_arrays read ss order func s ≡ array_group read ss order s.level
  array_is h = ap (λ b. if b then array_group read ss order s.level else group_from func s read) h

  single_is : is_array read.ruled func ≡ false → group_with_arrays read ss order func s ≡ group_from func s read
  single_is h = ap (λ b. if b then array_group read ss order s.level else group_from func s read) h

  -- it is that of arrays, or of this function alone
  pub group_by : (P : Group → Type 0) → (is_array read.ruled func ≡ true → P (array_group read ss order s.level)) → (is_array read.ruled func ≡ false → P (group_from func s read))
      → P (group_with_arrays read ss order func s)
  group_by P array single = by (is_array read.ruled func) refl
    where
      by : (b : Bool) → is_array read.ruled func ≡ b → P (group_with_arrays read ss order func s)
      by true h = subst P (sym (array_is h)) (array h)
      by false h = subst P (sym (single_is h)) (single h)

-- ---- walks over an order
-- what holds of each group in turn
module _ (read : Reading) (ss : List Signature) (order : List ℕ) (P : Group → Type 0) (arrays : (level : ℕ) → P (array_group read ss order level))
    (single : (func : ℕ) (s : Signature) → slice_get ss func ≡ Some s → is_array read.ruled func ≡ false → P (group_from func s read)) where
  all_once : (levels : List ℕ) (level : ℕ) → All P (arrays_once read ss order levels level)
  all_once levels level = elim (is_place levels level) as (λ b. All P (if b then [] else array_group read ss order level ∷ [])) [
    | true ↦ All-nil P
    | false ↦ All-cons P (array_group read ss order level) [] (arrays level) (All-nil P)
  ]

  all_at : (levels : List ℕ) (func : ℕ) (o : Option Signature) → slice_get ss func ≡ o → All P (group_at read ss order levels func o)
  all_at levels func None e = All-nil P
  all_at levels func (Some s) e = by (is_array read.ruled func) refl
    where
      by : (b : Bool) → is_array read.ruled func ≡ b → All P (if b then arrays_once read ss order levels s.level else group_from func s read ∷ [])
      by true h = all_once levels s.level
      by false h = All-cons P (group_from func s read) [] (single func s e h) (All-nil P)

  all_from : (levels funcs : List ℕ) → All P (groups_from read ss order levels funcs)
  all_from levels [] = All-nil P
  all_from levels (func ∷ funcs) =
      All-append P (group_at read ss order levels func (slice_get ss func)) (groups_from read ss order (levels_after read levels func (slice_get ss func)) funcs)
      (all_at levels func (slice_get ss func) refl) (all_from (levels_after read levels func (slice_get ss func)) funcs)

  pub all_groups : All P (groups_of read ss order)
  all_groups = all_from [] order

-- ---- clauses and names
pub groups_hold : GroupsHold
groups_hold names read is size env functions all ss order = all_groups read ss order HoldsOf arrays (λ func s e h. group_holds names read is size env functions all func s)
  where
    H : FlatClause → Type 0
    H = HoldsFlat size env functions

    HoldsOf : Group → Type 0
    HoldsOf c = All H (ghosts.clauses c)

    arrays : (level : ℕ) → HoldsOf (array_group read ss order level)
    arrays level = All-by H (array_clauses level read.ruled.arrays) (λ c m. (
        let w = map_contains array_clause_of (filter (λ (k : ArrayClause). nat_eq k.level level) read.ruled.arrays) c m in
        let k = filter_contains (λ (j : ArrayClause). nat_eq j.level level) read.ruled.arrays w.0 w.1 in
        let from = All-contains (λ (j : ArrayClause). Contains read.flats j.clause) read.ruled.arrays w.0 (arrays_are_clauses names read.flats read.ruled is.ruled) k.0 in
        subst H w.2 (All-contains H read.flats w.0.clause all from)))

pub groups_lent : GroupsAreLent
groups_lent names read order is whole =
    all_groups read names.signatures order (λ (c : Group). ghosts.IsLent c names)
    (λ level. arrays_are_groups names read.flats read.ruled is.ruled order whole level)
    (λ func s e h. group_lent names read is func s e (All-contains HasFewArguments names.signatures s is.ruled.few (there names.signatures func s e)))

-- ---- levels
with_itself : (levels : List ℕ) (level : ℕ) → is_place (with_level levels level) level ≡ true
with_itself levels level = by (is_place levels level) refl
  where
    by : (b : Bool) → is_place levels level ≡ b → is_place (if b then levels else levels ++ level ∷ []) level ≡ true
    by true h = h
    by false h = is_placed (levels ++ level ∷ []) level (Contains-append_right levels (level ∷ []) level (contains_first level []))

with_others : (levels : List ℕ) (other level : ℕ) → is_place levels level ≡ true → is_place (with_level levels other) level ≡ true
with_others levels other level h = elim (is_place levels other) as (λ b. is_place (if b then levels else levels ++ other ∷ []) level ≡ true) [
  | true ↦ h
  | false ↦ is_placed (levels ++ other ∷ []) level (Contains-append_left levels (other ∷ []) level (place_is levels level h))
]

without_last : (levels : List ℕ) (other level : ℕ) → is_place levels level ≡ false → (other ≡ level → ⊥) → is_place (levels ++ other ∷ []) level ≡ false
without_last [] other level h ne = ap (λ b. b || false) (ne_eqb other level ne)
without_last (l ∷ levels) other level h ne = by (nat_eq l level) h (λ k. without_last levels other level k ne)
  where
    by : (b : Bool) → (b || is_place levels level) ≡ false → (is_place levels level ≡ false → is_place (levels ++ other ∷ []) level ≡ false) → (b || is_place (levels ++ other ∷ []) level) ≡ false
    by true k rest = absurd (true≢false k)
    by false k rest = rest k

without_others : (levels : List ℕ) (other level : ℕ) → is_place levels level ≡ false → (other ≡ level → ⊥) → is_place (with_level levels other) level ≡ false
without_others levels other level h ne = elim (is_place levels other) as (λ b. is_place (if b then levels else levels ++ other ∷ []) level ≡ false) [
  | true ↦ h
  | false ↦ without_last levels other level h ne
]

-- ---- groups are there
module _ (read : Reading) (ss : List Signature) (order : List ℕ) where
  first_of : (levels funcs : List ℕ) (func : ℕ) (s : Signature) (g : Group) → slice_get ss func ≡ Some s → Contains (group_at read ss order levels func (Some s)) g
      → Contains (groups_from read ss order levels (func ∷ funcs)) g
  first_of levels funcs func s g known m =
      let rest = groups_from read ss order (levels_after read levels func (slice_get ss func)) funcs in
      Contains-append_left (group_at read ss order levels func (slice_get ss func)) rest g
      (subst (λ (o : Option Signature). Contains (group_at read ss order levels func o) g) (sym known) m)

  rest_of : (levels funcs : List ℕ) (f : ℕ) (g : Group) → Contains (groups_from read ss order (levels_after read levels f (slice_get ss f)) funcs) g → Contains (groups_from read ss order levels (f ∷ funcs)) g
  rest_of levels funcs f g m = Contains-append_right (group_at read ss order levels f (slice_get ss f)) (groups_from read ss order (levels_after read levels f (slice_get ss f)) funcs) g m

  -- that of a single function
  single_there : (levels funcs : List ℕ) (func : ℕ) (s : Signature) → Contains funcs func → slice_get ss func ≡ Some s → is_array read.ruled func ≡ false → Contains (groups_from read ss order levels funcs) (group_from func s read)
  single_there levels [] func s m known h = absurd (contains_none func m)
  single_there levels (f ∷ funcs) func s m known h = elim (contains_cases f funcs func m) [
    | inl e ↦ subst (λ k. Contains (groups_from read ss order levels (k ∷ funcs)) (group_from func s read)) (sym e)
        (first_of levels funcs func s (group_from func s read) known
        (subst (λ b. Contains (if b then arrays_once read ss order levels s.level else group_from func s read ∷ []) (group_from func s read)) (sym h) (contains_first (group_from func s read) [])))
    | inr l ↦ rest_of levels funcs f (group_from func s read) (single_there (levels_after read levels f (slice_get ss f)) funcs func s l known h)
  ]

  once_there : (levels : List ℕ) (level : ℕ) → is_place levels level ≡ false → Contains (arrays_once read ss order levels level) (array_group read ss order level)
  once_there levels level h = subst (λ b. Contains (if b then [] else array_group read ss order level ∷ []) (array_group read ss order level)) (sym h) (contains_first (array_group read ss order level) [])

  -- that of the arrays of a level
  arrays_there : (levels funcs : List ℕ) (func : ℕ) (s : Signature) → is_place levels s.level ≡ false → Contains funcs func → slice_get ss func ≡ Some s → is_array read.ruled func ≡ true
      → Contains (groups_from read ss order levels funcs) (array_group read ss order s.level)
  arrays_there levels [] func s none m known h = absurd (contains_none func m)
  arrays_there levels (f ∷ funcs) func s none m known h =
      by_signature (λ after free l. arrays_there after funcs func s free l known h) (slice_get ss f) refl (is_array read.ruled f) refl
    where
      goal : Type 0
      goal = Contains (groups_from read ss order levels (f ∷ funcs)) (array_group read ss order s.level)

      Rest : Type 0
      Rest = (after : List ℕ) → is_place after s.level ≡ false → Contains funcs func → Contains (groups_from read ss order after funcs) (array_group read ss order s.level)

      here : (t : Signature) → slice_get ss f ≡ Some t → is_array read.ruled f ≡ true → t.level ≡ s.level → goal
      here t e a same =
          first_of levels funcs f t (array_group read ss order s.level) e
          (subst (λ b. Contains (if b then arrays_once read ss order levels t.level else group_from f t read ∷ []) (array_group read ss order s.level)) (sym a)
          (subst (λ l. Contains (arrays_once read ss order levels l) (array_group read ss order s.level)) (sym same) (once_there levels s.level none)))

      later : Rest → is_place (levels_after read levels f (slice_get ss f)) s.level ≡ false → Contains funcs func → goal
      later rest free l = rest_of levels funcs f (array_group read ss order s.level) (rest (levels_after read levels f (slice_get ss f)) free l)

      after : (o : Option Signature) (b : Bool) → slice_get ss f ≡ o → is_array read.ruled f ≡ b → ((t : Signature) → o ≡ Some t → b ≡ true → t.level ≡ s.level → ⊥) → is_place (levels_after read levels f (slice_get ss f)) s.level ≡ false
      after None b e a ne = ap (λ (p : Option Signature). is_place (levels_after read levels f p) s.level) e ∙ none
      after (Some t) false e a ne = ap (λ (p : Option Signature). is_place (levels_after read levels f p) s.level) e ∙ ap (λ c. is_place (if c then with_level levels t.level else levels) s.level) a ∙ none
      after (Some t) true e a ne =
          ap (λ (p : Option Signature). is_place (levels_after read levels f p) s.level) e ∙ ap (λ c. is_place (if c then with_level levels t.level else levels) s.level) a
          ∙ without_others levels t.level s.level none (ne t refl refl)

      behind : Rest → (o : Option Signature) (b : Bool) → slice_get ss f ≡ o → is_array read.ruled f ≡ b → ((t : Signature) → o ≡ Some t → b ≡ true → t.level ≡ s.level → ⊥) → goal
      behind rest o b e a ne = elim (contains_cases f funcs func m) [
        | inl same ↦ absurd (ne s (sym e ∙ ap (λ k. slice_get ss k) same ∙ known) (sym a ∙ ap (is_array read.ruled) same ∙ h) refl)
        | inr l ↦ later rest (after o b e a ne) l
      ]

      by_level : Rest → (t : Signature) → slice_get ss f ≡ Some t → is_array read.ruled f ≡ true → (b : Bool) → nat_eq t.level s.level ≡ b → goal
      by_level rest t e a true l = here t e a (eqb-true t.level s.level l)
      by_level rest t e a false l = behind rest (Some t) true e a (λ u is yes on. (
          let same : t ≡ u = same_Some t u is in
          true≢false (sym (eq-eqb t.level s.level (ap (λ (x : Signature). x.level) same ∙ on)) ∙ l)))

      by_signature : Rest → (o : Option Signature) → slice_get ss f ≡ o → (b : Bool) → is_array read.ruled f ≡ b → goal
      by_signature rest None e b a = behind rest None b e a (λ t is yes on. none-some t is)
      by_signature rest (Some t) e false a = behind rest (Some t) false e a (λ u is yes on. true≢false (sym yes))
      by_signature rest (Some t) e true a = by_level rest t e a (nat_eq t.level s.level) refl

pub group_there : GroupsAreThere
group_there read ss order func s m known =
    group_by read ss order func s (λ (g : Group). Contains (groups_of read ss order) g) (λ h. arrays_there read ss order [] order func s refl m known h) (λ h. single_there read ss order [] order func s m known h)

-- ---- groups have their functions
abbrev its : Reading → List Signature → ℕ → ℕ → Bool
its read ss level func = is_array read.ruled func && has_level level (slice_get ss func)

has_own_level : (level : ℕ) (o : Option Signature) → has_level level o ≡ true → (s : Signature) × (o ≡ Some s) × (s.level ≡ level)
has_own_level level None h = absurd (cc)
has_own_level level (Some s) h = (s, refl, eqb-true s.level level h)

-- an array of a level
record IsArrayOn (read : Reading) (ss : List Signature) (level func : ℕ) : Type 0 where
  array : is_array read.ruled func ≡ true
  signature : Signature
  known : slice_get ss func ≡ Some signature
  on : signature.level ≡ level

its_on : (read : Reading) (ss : List Signature) (level func : ℕ) → its read ss level func ≡ true → IsArrayOn read ss level func
its_on read ss level func h =
    let both = and_parts (is_array read.ruled func) (has_level level (slice_get ss func)) h in
    let w = has_own_level level (slice_get ss func) both.1 in
    record { array = both.0; signature = w.0; known = w.1; on = w.2 }

pub groups_have_own : GroupsHaveOwn
groups_have_own read ss order func s m known = by (is_array read.ruled func) refl
  where
    Fellow : ℕ → Type 0
    Fellow = IsFellow read ss order (group_with_arrays read ss order func s) s.level

    fellow : is_array read.ruled func ≡ true → (k : ℕ) → its read ss s.level k ≡ true → Fellow k
    fellow h k t =
        let w = its_on read ss s.level k t in
        record {
          signature = w.signature;
          known = w.known;
          on = w.on;
          is = array_is read ss order k w.signature w.array ∙ ap (array_group read ss order) w.on ∙ sym (array_is read ss order func s h);
        }

    by : (b : Bool) → is_array read.ruled func ≡ b → HasOwn read ss order func s
    by true h =
        let is = array_is read ss order func s h in
        let own : Contains (own_arrays read.ruled ss order s.level) func =
        contains_filter (its read ss s.level) order func m
        (and_from (is_array read.ruled func) (has_level s.level (slice_get ss func)) h (ap (has_level s.level) known ∙ eq-eqb s.level s.level refl)) in
        record {
          own = subst (λ (g : Group). Contains (ghosts.own g) func) (sym is) own;
          fellows = subst (λ (g : Group). All Fellow (ghosts.own g)) (sym is)
              (All-by Fellow (own_arrays read.ruled ss order s.level) (λ k l. fellow h k (filter_contains (its read ss s.level) order k l).1));
          alone = ap ghosts.applied is;
        }
    by false h =
        let is = single_is read ss order func s h in
        let one = ap ghosts.own is ∙ own_is func s read in
        record {
          own = subst (λ funcs. Contains funcs func) (sym one) (contains_first func []);
          fellows = subst (All Fellow) (sym one) (All-cons Fellow func [] (record { signature = s; known = known; on = refl; is = refl }) (All-nil Fellow));
          alone = ap ghosts.applied is ∙ applied_none func s read;
        }

-- ---- clauses
alone_held : (names : NameList) (read : Reading) (order : List ℕ) (c : FlatClause) → IsHeldAlone names read c → IsHeld names read order c
alone_held names read order c h = record {
  func = h.func;
  signature = h.signature;
  known = h.known;
  held = λ size env functions all. h.held size env functions
      (subst (λ (g : Group). All (HoldsFlat size env functions) (ghosts.clauses g)) (single_is read names.signatures order h.func h.signature h.other) all);
}

array_held : (names : NameList) (read : Reading) (order : List ℕ) → IsReadable names read → (c : FlatClause) → IsOverArrays read.ruled c → IsHeld names read order c
array_held names read order is c over =
    let k = over.read in
    let has = All-contains (HasArrays names) read.ruled.arrays k (clauses_have_arrays names read.flats read.ruled is.ruled) over.there in
    let array = any_found (λ (j : ArrayClause). is_place j.funcs has.first) read.ruled.arrays k over.there (is_placed k.funcs has.first has.among) in
    let s = has_own_level k.level (slice_get names.signatures has.first)
    (All-contains (λ func. has_level k.level (slice_get names.signatures func) ≡ true) k.funcs has.first has.each has.among) in
    let among : Contains (array_clauses s.0.level read.ruled.arrays) k.clause =
    contains_map array_clause_of (filter (λ (j : ArrayClause). nat_eq j.level s.0.level) read.ruled.arrays) k
    (contains_filter (λ (j : ArrayClause). nat_eq j.level s.0.level) read.ruled.arrays k over.there (eq-eqb k.level s.0.level (sym s.2))) in
    record {
      func = has.first;
      signature = s.0;
      known = s.1;
      held = λ size env functions all. (
          let H = HoldsFlat size env functions in
          subst H over.is
          (All-contains H (array_clauses s.0.level read.ruled.arrays) k.clause
          (subst (λ (g : Group). All H (ghosts.clauses g)) (array_is read names.signatures order has.first s.0 array) all) among));
    }

pub clauses_held : ClausesAreHeld
clauses_held names read order is c m =
    elim (All-contains (λ d. ((func : ℕ) × (monotone_place names d ≡ Some func)) ⊎ (IsOfCases names read.ruled d ⊎ IsOverArrays read.ruled d)) read.flats c (clauses_read names read.flats read.ruled is.ruled) m) [
      | inl own ↦ alone_held names read order c (monotone_held names read is c m own.0 own.1)
      | inr (inl of) ↦ alone_held names read order c (case_held names read is c of)
      | inr (inr over) ↦ array_held names read order is c over
    ]

-- ---- tables
pub one_table : FunctionsHaveTables
one_table func s read size names v = elim (is_array read.ruled func)
    as (λ b. (table : Table) × ((if b then step_tables func s.name names v else ghosts.tables_of (group_from func s read) size names v) ≡ table ∷ [])) [
      | true ↦ (_, refl)
      | false ↦ single_table func s read size names v
    ]

module _ (read : Reading) (ss : List Signature) (size : ℕ) (names : NameList) (v : Values) (table : ℕ → Table)
    (each : (func : ℕ) (s : Signature) → slice_get ss func ≡ Some s → function_tables read func s size names v ≡ table func ∷ []) where
  step_is : (level func : ℕ) (w : IsArrayOn read ss level func) → step_tables func w.signature.name names v ≡ table func ∷ []
  step_is level func w =
      sym (ap (λ b. if b then step_tables func w.signature.name names v else ghosts.tables_of (group_from func w.signature read) size names v) w.array)
      ∙ each func w.signature w.known

  steps : (level : ℕ) (funcs : List ℕ) → All (λ k. its read ss level k ≡ true) funcs → arrays_tables funcs (place_words ss funcs) names v ≡ map table funcs
  steps level [] all = refl
  steps level (func ∷ funcs) all =
      let Its = λ (k : ℕ). its read ss level k ≡ true in
      let w = its_on read ss level func (All-head Its func funcs all) in
      let rest = steps level funcs (All-tail Its func funcs all) in
      let both : step_tables func w.signature.name names v ++ arrays_tables funcs (place_words ss funcs) names v ≡ table func ∷ map table funcs =
      λ i. step_is level func w i ++ rest i in
      ap (λ (o : Option Signature). arrays_tables (func ∷ funcs) (signature_word o ++ place_words ss funcs) names v) w.known ∙ both

  array_tables : (order : List ℕ) (level : ℕ) → ghosts.tables_of (array_group read ss order level) size names v ≡ map table (ghosts.own (array_group read ss order level))
  array_tables order level = steps level (own_arrays read.ruled ss order level) (filter_passes (its read ss level) order)

  single_tables : (func : ℕ) (s : Signature) → slice_get ss func ≡ Some s → is_array read.ruled func ≡ false
      → ghosts.tables_of (group_from func s read) size names v ≡ map table (ghosts.own (group_from func s read))
  single_tables func s known h =
      sym (ap (λ b. if b then step_tables func s.name names v else ghosts.tables_of (group_from func s read) size names v) h)
      ∙ each func s known ∙ ap (map table) (sym (own_is func s read))

  abbrev Gives : Group → Type 0
  Gives g = ghosts.tables_of g size names v ≡ map table (ghosts.own g)

  mapped : (xs ys : List ℕ) → map table (xs ++ ys) ≡ map table xs ++ map table ys
  mapped [] ys = refl
  mapped (x ∷ xs) ys = ap (λ (ts : List Table). table x ∷ ts) (mapped xs ys)

  give_all : (groups : List Group) → All Gives groups → flat_map (λ g. ghosts.tables_of g size names v) groups ≡ map table (flat_map ghosts.own groups)
  give_all [] all = refl
  give_all (g ∷ groups) all =
      (λ i. All-head Gives g groups all i ++ give_all groups (All-tail Gives g groups all) i) ∙ sym (mapped (ghosts.own g) (flat_map ghosts.own groups))

pub groups_give_tables : GroupsGiveTables
groups_give_tables read ss order size names v table each func s known =
    group_by read ss order func s (λ (g : Group). ghosts.tables_of g size names v ≡ map table (ghosts.own g))
    (λ h. array_tables read ss size names v table each order s.level) (λ h. single_tables read ss size names v table each func s known h)

pub all_tables_given : AllTablesAreGiven
all_tables_given read ss order size names v table each =
    give_all read ss size names v table each (groups_of read ss order)
    (all_groups read ss order (λ (g : Group). ghosts.tables_of g size names v ≡ map table (ghosts.own g)) (array_tables read ss size names v table each order)
    (λ func s known h. single_tables read ss size names v table each func s known h))

-- ---- all functions
flat_all : (P : ℕ → Type 0) (groups : List Group) → All (λ g. All P (ghosts.own g)) groups → All P (flat_map ghosts.own groups)
flat_all P [] all = All-nil P
flat_all P (g ∷ groups) all =
    All-append P (ghosts.own g) (flat_map ghosts.own groups) (All-head (λ g. All P (ghosts.own g)) g groups all) (flat_all P groups (All-tail (λ g. All P (ghosts.own g)) g groups all))

flat_there : (groups : List Group) (g : Group) (func : ℕ) → Contains groups g → Contains (ghosts.own g) func → Contains (flat_map ghosts.own groups) func
flat_there [] g func m n = absurd (contains_none g m)
flat_there (d ∷ groups) g func m n = elim (contains_cases d groups g m) [
  | inl e ↦ Contains-append_left (ghosts.own d) (flat_map ghosts.own groups) func (subst (λ (x : Group). Contains (ghosts.own x) func) (sym e) n)
  | inr l ↦ Contains-append_right (ghosts.own d) (flat_map ghosts.own groups) func (flat_there groups g func l n)
]

-- a place that a list has
pub got_one : {A : Type 0} (xs : List A) (i : ℕ) → i < length xs → (x : A) × (slice_get xs i ≡ Some x)
got_one [] i h = absurd (omega arith)
got_one (x ∷ xs) zero h = (x, refl)
got_one (x ∷ xs) (suc i) h = got_one xs i (omega (arith, h))

pub groups_own_all : GroupsOwnAll
groups_own_all read ss order known = record {
  inside = flat_all Inside (groups_of read ss order)
      (all_groups read ss order (λ (g : Group). All Inside (ghosts.own g))
      (λ level. All-by Inside (own_arrays read.ruled ss order level) (λ k m. (let w = its_on read ss level k (filter_contains (its read ss level) order k m).1 in slice_get_within ss k w.signature w.known)))
      (λ func s e h. subst (All Inside) (sym (own_is func s read)) (All-cons Inside func [] (slice_get_within ss func s e) (All-nil Inside))));
  whole = λ func m within. (
      let s = got_one ss func within in
      flat_there (groups_of read ss order) (group_with_arrays read ss order func s.0) func (group_there read ss order func s.0 m s.1) (groups_have_own read ss order func s.0 m s.1).own);
}
  where
    Inside : ℕ → Type 0
    Inside func = func < length ss
