-- Groups one by one: the first clause with a form over a function gives its group, and its cases where there is none.
use Rattle.std.proofs.Common.{◌≡◌, ◌∙◌, ◌<◌, ◌≤◌, ℕ, ◌+◌, suc, List, [], ◌∷◌, ◌++◌, true, false, map, length, drop, get_or, Option, Some, None, refl, sym, ap, subst, append-nil, append_assoc, add-one, arith, drop-cons}
use Rattle.std.specs.Prelude.{if◌then◌else◌, slice_get}
use Rattle.std.specs.List.{All}
use Rattle.std.proofs.lemmas.List.{drop_all}
use Rattle.std.proofs.lemmas.Option.{slice_get-get_or}
use Rattle.hp_tree.specs.declared.problem.Sort.TheVariants.{Num}
use Rattle.hp_tree.specs.Value.{Word}
use Rattle.hp_defs.specs.declared.names.Signature.{Signature}
use Rattle.hp_defs.specs.Names.{NameList}
use Rattle.hp_norm.specs.declared.flat.FlatClause.{FlatClause}
use Rattle.hp_shapes.specs.declared.shape.Form.{Form}
use Rattle.hp_shapes.specs.Shapes.{form_of}
use Rattle.hp_pairs.specs.declared.branch.Branch.{Branch}
use Rattle.hp_flatten.proofs.IsFlat.{flattened_is_flat}
use Rattle.hp_flatten.proofs.One.{flattened_has_one}
use Rattle.hp_cases.specs.declared.case.Case.{Case}
use Rattle.hp_cases.specs.Cases.{IsByCases}
use Rattle.hp_pairs.specs.Answers.{IsUnmet}
use Rattle.hp_pairs.specs.Branches.{branches_of, pairs_from}
use Rattle.hp_points.specs.Made.{free_at, monotone_at}
use Rattle.hp_by_cases.specs.Made.{cases_at}
use Rattle.hp_array.specs.Made.{arrays_at}
use Rattle.hp_arrays.specs.Arrays.{IsArrayGroup}
use Rattle.hp_rules.specs.declared.ruled.Ruled.{Ruled}
use Rattle.hp_rules.specs.Rules.{is_array}
use Rattle.hp_ruled.specs.Laws.{AreRuled, array_clauses, case_of, cases_of, clauses_of, own_arrays, place_words}
use Rattle.hp_ruled.proofs.Arrays.{arrays_are_groups}
use Rattle.hp_groups.specs.declared.group.Group.{Group}
use Rattle.hp_groups.specs.declared.group.Group.TheVariants.{Arrays, Cases, Free, Monotone}
use Rattle.hp_groups.specs.Groups.{Reading, array_group, arrays_once, by_branches, group_among, group_at, group_from, group_with, groups_from, groups_of, levels_after, with_level}
use Rattle.hp_groups.specs.Laws.{IsWhole}
use Rattle.hp_ruled.proofs.ByCases.{functions_by_cases}
use Rattle.hp_ruled.proofs.Shapes.{form_nums}

abbrev pub form_over : FlatClause → Signature → Option Form
form_over c s = form_of s.name c.vars c.guard c.head

-- ---- the clauses of a function
-- those from a place on decide its group
pub record IsGroupFrom (names : NameList) (ruled : Ruled) (clauses : List FlatClause) (func i : ℕ) : Type 0 where
  pub rest : (s : Signature) → slice_get names.signatures func ≡ Some s → group_among func s ruled clauses ≡ group_among func s ruled (drop i clauses)

pub from_start : (names : NameList) (ruled : Ruled) (clauses : List FlatClause) (func : ℕ) → IsGroupFrom names ruled clauses func 0
from_start names ruled clauses func = record { rest = λ s known. refl }

from_at : (names : NameList) (ruled : Ruled) (clauses : List FlatClause) (func i : ℕ) (c : FlatClause) (o : Option Form) (s : Signature) → i < length clauses → c ≡ get_or clauses i c → slice_get names.signatures func ≡ Some s
    → o ≡ form_over c s → IsGroupFrom names ruled clauses func i → group_among func s ruled clauses ≡ group_with func s c o (group_among func s ruled (drop (suc i) clauses))
from_at names ruled clauses func i c o s l e known is g =
    g.rest s known ∙ ap (group_among func s ruled) (drop-cons clauses i c l ∙ ap (λ (d : FlatClause). d ∷ drop (suc i) clauses) (sym e))
    ∙ ap (λ (p : Option Form). group_with func s c p (group_among func s ruled (drop (suc i) clauses))) (sym is)

pub from_more : (names : NameList) (ruled : Ruled) (clauses : List FlatClause) (func i : ℕ) (c : FlatClause) (o : Option Form) → i < length clauses → c ≡ get_or clauses i c → o ≡ None
    → ((s : Signature) → slice_get names.signatures func ≡ Some s → o ≡ form_over c s) → IsGroupFrom names ruled clauses func i → IsGroupFrom names ruled clauses func (i + 1)
from_more names ruled clauses func i c o l e none is g = record {
  rest = λ s known. (
      from_at names ruled clauses func i c None s l e known (sym none ∙ is s known) g ∙ ap (λ (k : ℕ). group_among func s ruled (drop k clauses)) (sym (add-one i))
      );
}

pub from_found : (names : NameList) (ruled : Ruled) (clauses : List FlatClause) (func i : ℕ) (c : FlatClause) (o : Option Form) (form : Form) → i < length clauses → c ≡ get_or clauses i c → o ≡ Some form
    → ((s : Signature) → slice_get names.signatures func ≡ Some s → o ≡ form_over c s) → IsGroupFrom names ruled clauses func i
    → (s : Signature) → slice_get names.signatures func ≡ Some s → group_among func s ruled clauses ≡ Monotone (monotone_at func s c form)
from_found names ruled clauses func i c o form l e some is g s known = from_at names ruled clauses func i c (Some form) s l e known (sym some ∙ is s known) g

pub from_end : (names : NameList) (ruled : Ruled) (clauses : List FlatClause) (func i : ℕ) → length clauses ≤ i → IsGroupFrom names ruled clauses func i
    → (s : Signature) → slice_get names.signatures func ≡ Some s → group_among func s ruled clauses ≡ by_branches func s ruled (branches_of func ruled.branches)
from_end names ruled clauses func i l g s known = g.rest s known ∙ ap (group_among func s ruled) (drop_all i clauses l)

-- ---- cases
-- a function without cases is free
pub none_free : (func : ℕ) (s : Signature) (ruled : Ruled) → length (cases_of func ruled.branches) ≡ 0 → by_branches func s ruled (branches_of func ruled.branches) ≡ Free (free_at func s)
none_free func s ruled = by (branches_of func ruled.branches)
  where
    by : (bs : List Branch) → length (map case_of bs) ≡ 0 → by_branches func s ruled bs ≡ Free (free_at func s)
    by [] e = refl
    by (b ∷ bs) e = absurd (cc)

-- and one with some is by these
pub some_cases : (func : ℕ) (s : Signature) (ruled : Ruled) → (length (cases_of func ruled.branches) ≡ 0 → ⊥)
    → by_branches func s ruled (branches_of func ruled.branches) ≡ Cases (cases_at func s (clauses_of func ruled.clauses) (cases_of func ruled.branches) [])
some_cases func s ruled = by (branches_of func ruled.branches)
  where
    by : (bs : List Branch) → (length (map case_of bs) ≡ 0 → ⊥) → by_branches func s ruled bs ≡ Cases (cases_at func s (clauses_of func ruled.clauses) (map case_of bs) [])
    by [] n = absurd (n refl)
    by (b ∷ bs) n = refl

pub not_none : (func : ℕ) (ruled : Ruled) → (length (cases_of func ruled.branches) ≡ 0 → ⊥) → branches_of func ruled.branches ≡ [] → ⊥
not_none func ruled n e = n (ap (λ (bs : List Branch). length (map case_of bs)) e)

-- what a monotone function asks of its clause
abbrev pub IsKnownFor : NameList → ℕ → FlatClause → Form → Type 0
IsKnownFor names func c form = (s : Signature) × (slice_get names.signatures func ≡ Some s) × (s.args ≡ Num ∷ []) × (s.result ≡ Num) × (form_of s.name c.vars c.guard c.head ≡ Some form)

signature_at : (ss : List Signature) (func : ℕ) → func < length ss → (s : Signature) × (slice_get ss func ≡ Some s)
signature_at [] func l = absurd (omega (arith, l))
signature_at (s ∷ ss) func l = (get_or (s ∷ ss) func s, slice_get-get_or (s ∷ ss) func s l)

pub known_for : (names : NameList) (ruled : Ruled) (clauses : List FlatClause) (func i : ℕ) (c : FlatClause) (o : Option Form) (form : Form) → AreRuled names clauses ruled → func < length names.signatures
    → i < length clauses → c ≡ get_or clauses i c → o ≡ Some form → ((s : Signature) → slice_get names.signatures func ≡ Some s → o ≡ form_over c s) → IsKnownFor names func c form
known_for names ruled clauses func i c o form taken inside l e some is =
    let at = signature_at names.signatures func inside in
    let found : form_over c at.0 ≡ Some form = sym (is at.0 at.1) ∙ some in
    let nums = form_nums names clauses ruled taken func at.0 at.1 c form (i, l, sym e) found in
    (at.0, at.1, nums.args, nums.result, found)

-- ---- functions one by one
-- the groups of those from a place on are still to come, where the arrays of these levels are there
pub record AreGroupsTo (names : NameList) (read : Reading) (order : List ℕ) (i : ℕ) (levels : List ℕ) (groups : List Group) : Type 0 where
  pub rest : groups_of read names.signatures order ≡ groups ++ groups_from read names.signatures order levels (drop i order)

pub groups_start : (names : NameList) (read : Reading) (order levels : List ℕ) (groups : List Group) → levels ≡ [] → groups ≡ [] → AreGroupsTo names read order 0 levels groups
groups_start names read order levels groups none nothing = record { rest = λ j. sym nothing j ++ groups_from read names.signatures order (sym none j) order }

pub groups_more : (names : NameList) (read : Reading) (order : List ℕ) (i func : ℕ) (levels next : List ℕ) (groups more : List Group) → i < length order → func ≡ get_or order i 0
    → func < length names.signatures → ((s : Signature) → slice_get names.signatures func ≡ Some s → more ≡ groups ++ group_at read names.signatures order levels func (Some s))
    → ((s : Signature) → slice_get names.signatures func ≡ Some s → next ≡ levels_after read levels func (Some s))
    → AreGroupsTo names read order i levels groups → AreGroupsTo names read order (i + 1) next more
groups_more names read order i func levels next groups more l e inside grown after g =
    let ss = names.signatures in
    let at = signature_at ss func inside in
    let rest = groups_from read ss order next (drop (suc i) order) in
    let here = group_at read ss order levels func (Some at.0) in
    let step : groups_from read ss order levels (drop i order) ≡ here ++ rest =
    ap (groups_from read ss order levels) (drop-cons order i 0 l ∙ ap (λ (k : ℕ). k ∷ drop (suc i) order) (sym e))
    ∙ ap (λ (o : Option Signature). group_at read ss order levels func o ++ groups_from read ss order (levels_after read levels func o) (drop (suc i) order)) at.1
    ∙ ap (λ (ls : List ℕ). here ++ groups_from read ss order ls (drop (suc i) order)) (sym (after at.0 at.1)) in
    record {
      rest = g.rest ∙ ap (λ (gs : List Group). groups ++ gs) step ∙ sym (append_assoc groups here rest)
          ∙ (λ j. sym (grown at.0 at.1) j ++ groups_from read ss order next (drop (sym (add-one i) j) order));
    }

pub groups_end : (names : NameList) (read : Reading) (order : List ℕ) (i : ℕ) (levels : List ℕ) (groups : List Group) → length order ≤ i → AreGroupsTo names read order i levels groups
    → groups ≡ groups_of read names.signatures order
groups_end names read order i levels groups l g =
    sym (g.rest ∙ ap (λ (ks : List ℕ). groups ++ groups_from read names.signatures order levels ks) (drop_all i order l) ∙ append-nil groups)

-- ---- the group of a function, or that of the arrays of its level
module _ (read : Reading) (ss : List Signature) (order levels : List ℕ) (func : ℕ) (s : Signature) where
  pub array_at : is_array read.ruled func ≡ true → group_at read ss order levels func (Some s) ≡ arrays_once read ss order levels s.level
  array_at h = ap (λ b. if b then arrays_once read ss order levels s.level else group_from func s read ∷ []) h

  pub single_at : is_array read.ruled func ≡ false → group_at read ss order levels func (Some s) ≡ group_from func s read ∷ []
  single_at h = ap (λ b. if b then arrays_once read ss order levels s.level else group_from func s read ∷ []) h

  pub array_after : is_array read.ruled func ≡ true → levels_after read levels func (Some s) ≡ with_level levels s.level
  array_after h = ap (λ b. if b then with_level levels s.level else levels) h

  pub single_after : is_array read.ruled func ≡ false → levels_after read levels func (Some s) ≡ levels
  single_after h = ap (λ b. if b then with_level levels s.level else levels) h

-- ---- the arrays of a level
module _ (names : NameList) (clauses : List FlatClause) (ruled : Ruled) (order : List ℕ) (level : ℕ) (own : List ℕ) (words : List Word) (over : List FlatClause)
    (f : own ≡ own_arrays ruled names.signatures order level) (w : words ≡ place_words names.signatures own) (o : over ≡ array_clauses level ruled.arrays) where
  -- what the class asks for
  pub are_group : AreRuled names clauses ruled → IsWhole names.signatures order → IsArrayGroup names own words over
  are_group are whole =
      subst (λ (cs : List FlatClause). IsArrayGroup names own words cs) (sym o)
      (subst (λ (ws : List Word). IsArrayGroup names own ws (array_clauses level ruled.arrays)) (sym w)
      (subst (λ (fs : List ℕ). IsArrayGroup names fs (place_words names.signatures fs) (array_clauses level ruled.arrays)) (sym f)
      (arrays_are_groups names clauses ruled are order whole level)))

  pub group_is : Arrays (arrays_at own words over) ≡ array_group (record { flats = clauses; ruled = ruled }) names.signatures order level
  group_is = let same = w ∙ ap (place_words names.signatures) f in λ i. Arrays (arrays_at (f i) (same i) (o i))

-- what the class of cases asks for
pub by_these : (names : NameList) (clauses : List FlatClause) (ruled : Ruled) (func : ℕ) (own : List FlatClause) (cases : List Case) (lower : List ℕ) → AreRuled names clauses ruled
    → All IsUnmet (pairs_from ruled.branches 0 (length names.signatures)) → own ≡ clauses_of func ruled.clauses → cases ≡ cases_of func ruled.branches → lower ≡ [] → (length cases ≡ 0 → ⊥)
    → (s : Signature) → slice_get names.signatures func ≡ Some s → IsByCases names func s.name (length s.args) own cases lower (func ∷ [])
by_these names clauses ruled func own cases lower are unmet o k none some s known =
    subst (λ (fs : List ℕ). IsByCases names func s.name (length s.args) own cases fs (func ∷ [])) (sym none)
    (subst (λ (found : List FlatClause). IsByCases names func s.name (length s.args) found cases [] (func ∷ [])) (sym o)
    (subst (λ (found : List Case). IsByCases names func s.name (length s.args) (clauses_of func ruled.clauses) found [] (func ∷ [])) (sym k)
    (functions_by_cases flattened_is_flat flattened_has_one names clauses ruled are unmet func s known (not_none func ruled (λ empty. some (ap length k ∙ empty))))))
