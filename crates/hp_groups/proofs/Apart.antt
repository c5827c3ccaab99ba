-- No function is in two groups.
use Rattle.std.proofs.Common.{◌≡◌, ◌∙◌, ◌&&◌, ◌||◌, inl, inr, ℕ, Bool, true, false, if◌then◌else◌, List, [], ◌∷◌, ◌++◌, append-nil, Option, Some, None, refl, sym, ap, subst}
use Rattle.std.specs.Prelude.{slice_get}
use Rattle.std.specs.List.{All, Contains}
use Rattle.std.proofs.lemmas.Bool.{and_parts, eqb-true, ne_eqb, true≢false}
use Rattle.std.proofs.lemmas.List.Elements.{All-append, All-cons, All-nil, Contains-append_left, Contains-append_right}
use Rattle.hp_local.proofs.Lists.{contains_cases, contains_first, contains_later, contains_none, filter_contains}
use Rattle.hp_defs.specs.declared.names.Signature.{Signature}
use Rattle.hp_class.specs.Frame.{is_place}
use Rattle.hp_class.specs.Laws.{AreApart}
use Rattle.hp_rules.specs.Rules.{has_level, is_array}
use Rattle.hp_ruled.proofs.Arrays.{is_placed, place_is}
use Rattle.hp_groups.specs.declared.group.Group.{Group}
use Rattle.hp_groups.specs.contracts.group.GroupLocalClass.TheImpl.{ghosts}
use Rattle.hp_groups.specs.Groups.{Reading, array_group, arrays_once, group_at, group_from, groups_from, levels_after, with_level}
use Rattle.hp_groups.specs.Laws.{AreOnce, GroupsAreApart}
use Rattle.hp_groups.proofs.Classes.{applied_none, own_is}

abbrev IsOther : ℕ → Group → Type 0
IsOther k d = is_place (ghosts.own d ++ ghosts.applied d) k ≡ false

not_there : (xs : List ℕ) (k : ℕ) → (Contains xs k → ⊥) → is_place xs k ≡ false
not_there xs k none = by (is_place xs k) refl
  where
    by : (b : Bool) → is_place xs k ≡ b → is_place xs k ≡ false
    by false h = h
    by true h = absurd (none (place_is xs k h))

same_level : (l m : ℕ) (o : Option Signature) → has_level l o ≡ true → has_level m o ≡ true → l ≡ m
same_level l m None h k = absurd (cc)
same_level l m (Some s) h k = sym (eqb-true s.level l h) ∙ eqb-true s.level m k

only : (x y : ℕ) → Contains (x ∷ []) y → x ≡ y
only x y m = elim (contains_cases x [] y m) [ inl e ↦ e | inr none ↦ absurd (contains_none y none) ]

module _ (read : Reading) (ss : List Signature) (order : List ℕ) where
  abbrev its : ℕ → ℕ → Bool
  its level func = is_array read.ruled func && has_level level (slice_get ss func)

  array_other : (level k : ℕ) → (its level k ≡ true → ⊥) → IsOther k (array_group read ss order level)
  array_other level k none =
      let own = ghosts.own (array_group read ss order level) in
      not_there (own ++ []) k (λ m. none (filter_contains (its level) order k (subst (λ xs. Contains xs k) (append-nil own) m)).1)

  single_other : (func k : ℕ) (s : Signature) → (func ≡ k → ⊥) → IsOther k (group_from func s read)
  single_other func k s ne = (λ i. is_place (own_is func s read i ++ applied_none func s read i) k) ∙ ap (λ b. b || false) (ne_eqb func k ne)

  -- ---- a function that is no array is in no other group
  module _ (k : ℕ) (single : is_array read.ruled k ≡ false) where
    not_its : (level : ℕ) → its level k ≡ true → ⊥
    not_its level h = true≢false (sym (and_parts (is_array read.ruled k) (has_level level (slice_get ss k)) h).0 ∙ single)

    others_at : (levels : List ℕ) (func : ℕ) (o : Option Signature) → (func ≡ k → ⊥) → All (IsOther k) (group_at read ss order levels func o)
    others_at levels func None ne = All-nil (IsOther k)
    others_at levels func (Some s) ne = elim (is_array read.ruled func) as (λ b. All (IsOther k) (if b then arrays_once read ss order levels s.level else group_from func s read ∷ [])) [
      | true ↦ elim (is_place levels s.level) as (λ b. All (IsOther k) (if b then [] else array_group read ss order s.level ∷ [])) [
        | true ↦ All-nil (IsOther k)
        | false ↦ All-cons (IsOther k) (array_group read ss order s.level) [] (array_other s.level k (not_its s.level)) (All-nil (IsOther k))
      ]
      | false ↦ All-cons (IsOther k) (group_from func s read) [] (single_other func k s ne) (All-nil (IsOther k))
    ]

    others_from : (levels funcs : List ℕ) → (Contains funcs k → ⊥) → All (IsOther k) (groups_from read ss order levels funcs)
    others_from levels [] none = All-nil (IsOther k)
    others_from levels (func ∷ funcs) none =
        let after = levels_after read levels func (slice_get ss func) in
        All-append (IsOther k) (group_at read ss order levels func (slice_get ss func)) (groups_from read ss order after funcs)
        (others_at levels func (slice_get ss func) (λ e. none (subst (Contains (func ∷ funcs)) e (contains_first func funcs))))
        (others_from after funcs (λ m. none (contains_later func funcs k m)))

  -- ---- nor is an array, behind those of its level
  module _ (k level : ℕ) (array : its level k ≡ true) where
    parts : (is_array read.ruled k ≡ true) × (has_level level (slice_get ss k) ≡ true)
    parts = and_parts (is_array read.ruled k) (has_level level (slice_get ss k)) array

    not_on : (other : ℕ) → (level ≡ other → ⊥) → its other k ≡ true → ⊥
    not_on other ne h = ne (same_level level other (slice_get ss k) parts.1 (and_parts (is_array read.ruled k) (has_level other (slice_get ss k)) h).1)

    behind_once : (levels : List ℕ) (other : ℕ) → is_place levels level ≡ true → All (IsOther k) (arrays_once read ss order levels other)
    behind_once levels other there = by (is_place levels other) refl
      where
        by : (b : Bool) → is_place levels other ≡ b → All (IsOther k) (if b then [] else array_group read ss order other ∷ [])
        by true h = All-nil (IsOther k)
        by false h =
            All-cons (IsOther k) (array_group read ss order other) []
            (array_other other k (not_on other (λ e. true≢false (sym there ∙ ap (is_place levels) e ∙ h)))) (All-nil (IsOther k))

    behind_at : (levels : List ℕ) (func : ℕ) (o : Option Signature) → is_place levels level ≡ true → All (IsOther k) (group_at read ss order levels func o)
    behind_at levels func None there = All-nil (IsOther k)
    behind_at levels func (Some s) there = by (is_array read.ruled func) refl
      where
        by : (b : Bool) → is_array read.ruled func ≡ b → All (IsOther k) (if b then arrays_once read ss order levels s.level else group_from func s read ∷ [])
        by true h = behind_once levels s.level there
        by false h =
            All-cons (IsOther k) (group_from func s read) []
            (single_other func k s (λ e. true≢false (sym parts.0 ∙ ap (is_array read.ruled) (sym e) ∙ h))) (All-nil (IsOther k))

    after_there : (levels : List ℕ) (func : ℕ) (o : Option Signature) → is_place levels level ≡ true → is_place (levels_after read levels func o) level ≡ true
    after_there levels func None there = there
    after_there levels func (Some s) there = elim (is_array read.ruled func) as (λ b. is_place (if b then with_level levels s.level else levels) level ≡ true) [
      | true ↦ elim (is_place levels s.level) as (λ b. is_place (if b then levels else levels ++ s.level ∷ []) level ≡ true) [
        | true ↦ there
        | false ↦ is_placed (levels ++ s.level ∷ []) level (Contains-append_left levels (s.level ∷ []) level (place_is levels level there))
      ]
      | false ↦ there
    ]

    behind_from : (levels funcs : List ℕ) → is_place levels level ≡ true → All (IsOther k) (groups_from read ss order levels funcs)
    behind_from levels [] there = All-nil (IsOther k)
    behind_from levels (func ∷ funcs) there =
        let after = levels_after read levels func (slice_get ss func) in
        All-append (IsOther k) (group_at read ss order levels func (slice_get ss func)) (groups_from read ss order after funcs)
        (behind_at levels func (slice_get ss func) there) (behind_from after funcs (after_there levels func (slice_get ss func) there))

  -- ---- all groups
  abbrev Apart : List Group → Type 0
  Apart groups = AreApart ghosts.own ghosts.applied groups

  apart_from : (levels funcs : List ℕ) → AreOnce funcs → Apart (groups_from read ss order levels funcs)
  apart_from levels [] once = tt
  apart_from levels (func ∷ funcs) once = by (λ after. apart_from after funcs once.1) (slice_get ss func)
    where
      arrays : ((after : List ℕ) → Apart (groups_from read ss order after funcs)) → (level : ℕ) (b : Bool)
          → Apart ((if b then [] else array_group read ss order level ∷ []) ++ groups_from read ss order (if b then levels else levels ++ level ∷ []) funcs)
      arrays rest level true = rest levels
      arrays rest level false = (
        λ k m. behind_from k level (filter_contains (its level) order k m).1 (levels ++ level ∷ []) funcs
            (is_placed (levels ++ level ∷ []) level (Contains-append_right levels (level ∷ []) level (contains_first level []))),
        rest (levels ++ level ∷ []),
      )

      one : ((after : List ℕ) → Apart (groups_from read ss order after funcs)) → (s : Signature) (b : Bool) → is_array read.ruled func ≡ b
          → Apart ((if b then arrays_once read ss order levels s.level else group_from func s read ∷ []) ++ groups_from read ss order (if b then with_level levels s.level else levels) funcs)
      one rest s true h = arrays rest s.level (is_place levels s.level)
      one rest s false h = (
        λ k m. (
            let same : func ≡ k = only func k (subst (λ ks. Contains ks k) (own_is func s read) m) in
            others_from k (ap (is_array read.ruled) (sym same) ∙ h) levels funcs (subst (λ n. Contains funcs n → ⊥) same once.0)),
        rest levels,
      )

      by : ((after : List ℕ) → Apart (groups_from read ss order after funcs)) → (o : Option Signature) → Apart (group_at read ss order levels func o ++ groups_from read ss order (levels_after read levels func o) funcs)
      by rest None = rest levels
      by rest (Some s) = one rest s (is_array read.ruled func) refl

pub groups_apart : GroupsAreApart
groups_apart read ss order once = apart_from read ss order [] order once
