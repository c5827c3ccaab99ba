-- What the groups of functions have, where clauses keep the rules and no pair of their cases is met.
use Rattle.std.specs.Prelude.{◌≡◌, ◌<◌, ℕ, List, [], ◌∷◌, map, length, Some, slice_get}
use Rattle.std.specs.List.{All, Contains, flat_map}
use Rattle.hp_tree.specs.Universal.{HoldsAll}
use Rattle.hp_tree.specs.Value.{Environment, Functions}
use Rattle.hp_lit.specs.Truth.{Values}
use Rattle.hp_defs.specs.declared.names.Signature.{Signature}
use Rattle.hp_defs.specs.Names.{NameList}
use Rattle.hp_model.specs.declared.structure.Table.{Table}
use Rattle.hp_norm.specs.declared.flat.FlatClause.{FlatClause}
use Rattle.hp_norm.specs.Flat.{universal_of}
use Rattle.hp_class.specs.Laws.{AreApart}
use Rattle.hp_pairs.specs.Answers.{IsUnmet}
use Rattle.hp_pairs.specs.Branches.{pairs_from}
use Rattle.hp_ruled.specs.Laws.{AreRuled}
use Rattle.hp_groups.specs.declared.group.Group.{Group}
use Rattle.hp_groups.specs.contracts.group.GroupLocalClass.TheImpl.{ghosts}
use Rattle.hp_groups.specs.Groups.{Reading, function_tables, group_with_arrays, groups_of}

-- clauses that keep the rules, no pair of whose cases is met
pub record IsReadable (names : NameList) (read : Reading) : Type 0 where
  pub ruled : AreRuled names read.flats read.ruled
  pub unmet : All IsUnmet (pairs_from read.ruled.branches 0 (length names.signatures))

-- each function is among these places
abbrev pub IsWhole : List Signature → List ℕ → Type 0
IsWhole signatures order = (func : ℕ) → func < length signatures → Contains order func

-- no number is there twice
abbrev pub AreOnce : List ℕ → Type 0
AreOnce [] = Unit {0}
AreOnce (k ∷ ks) = (Contains ks k → ⊥) × AreOnce ks

-- ---- all groups
abbrev pub HoldsFlat : ℕ → Environment → Functions → FlatClause → Type 0
HoldsFlat size env functions c = HoldsAll size env functions (universal_of c)

-- the clauses of each group hold where all clauses do
abbrev pub GroupsHold : Type 0
GroupsHold = (names : NameList) (read : Reading) → IsReadable names read → (size : ℕ) (env : Environment) (functions : Functions) → All (HoldsFlat size env functions) read.flats
    → (signatures : List Signature) (order : List ℕ) → All (λ c. All (HoldsFlat size env functions) (ghosts.clauses c)) (groups_of read signatures order)

-- the names were lent to them
abbrev pub GroupsAreLent : Type 0
GroupsAreLent = (names : NameList) (read : Reading) (order : List ℕ) → IsReadable names read → IsWhole names.signatures order
    → All (λ c. ghosts.IsLent c names) (groups_of read names.signatures order)

-- no function is in two of them
abbrev pub GroupsAreApart : Type 0
GroupsAreApart = (read : Reading) (signatures : List Signature) (order : List ℕ) → AreOnce order → AreApart ghosts.own ghosts.applied (groups_of read signatures order)

-- ---- the group of a function
abbrev pub GroupsAreThere : Type 0
GroupsAreThere = (read : Reading) (signatures : List Signature) (order : List ℕ) (func : ℕ) (s : Signature) → Contains order func → slice_get signatures func ≡ Some s
    → Contains (groups_of read signatures order) (group_with_arrays read signatures order func s)

-- a function of the group of another one, on the same level
pub record IsFellow (read : Reading) (signatures : List Signature) (order : List ℕ) (group : Group) (level func : ℕ) : Type 0 where
  pub signature : Signature
  pub known : slice_get signatures func ≡ Some signature
  pub on : signature.level ≡ level
  pub is : group_with_arrays read signatures order func signature ≡ group

-- it is in its group, whose functions are all on its level and whose clauses apply no other ones
pub record HasOwn (read : Reading) (signatures : List Signature) (order : List ℕ) (func : ℕ) (s : Signature) : Type 0 where
  pub own : Contains (ghosts.own (group_with_arrays read signatures order func s)) func
  pub fellows : All (IsFellow read signatures order (group_with_arrays read signatures order func s) s.level) (ghosts.own (group_with_arrays read signatures order func s))
  pub alone : ghosts.applied (group_with_arrays read signatures order func s) ≡ []

abbrev pub GroupsHaveOwn : Type 0
GroupsHaveOwn = (read : Reading) (signatures : List Signature) (order : List ℕ) (func : ℕ) (s : Signature) → Contains order func → slice_get signatures func ≡ Some s → HasOwn read signatures order func s

-- ---- clauses
-- the group of a function, from whose clauses a clause follows
pub record IsHeld (names : NameList) (read : Reading) (order : List ℕ) (c : FlatClause) : Type 0 where
  pub func : ℕ
  pub signature : Signature
  pub known : slice_get names.signatures func ≡ Some signature
  pub held : (size : ℕ) (env : Environment) (functions : Functions) → All (HoldsFlat size env functions) (ghosts.clauses (group_with_arrays read names.signatures order func signature))
      → HoldsFlat size env functions c

abbrev pub ClausesAreHeld : Type 0
ClausesAreHeld = (names : NameList) (read : Reading) (order : List ℕ) → IsReadable names read → (c : FlatClause) → Contains read.flats c → IsHeld names read order c

-- ---- tables
-- each function has one table
abbrev pub FunctionsHaveTables : Type 0
FunctionsHaveTables = (func : ℕ) (s : Signature) (read : Reading) (size : ℕ) (names : NameList) (v : Values) → (table : Table) × (function_tables read func s size names v ≡ table ∷ [])

-- a group gives the tables of its functions in their order
abbrev pub GroupsGiveTables : Type 0
GroupsGiveTables = (read : Reading) (signatures : List Signature) (order : List ℕ) (size : ℕ) (names : NameList) (v : Values) (table : ℕ → Table)
    → ((func : ℕ) (s : Signature) → slice_get signatures func ≡ Some s → function_tables read func s size names v ≡ table func ∷ [])
    → (func : ℕ) (s : Signature) → slice_get signatures func ≡ Some s
    → ghosts.tables_of (group_with_arrays read signatures order func s) size names v ≡ map table (ghosts.own (group_with_arrays read signatures order func s))

-- and so do all groups
abbrev pub AllTablesAreGiven : Type 0
AllTablesAreGiven = (read : Reading) (signatures : List Signature) (order : List ℕ) (size : ℕ) (names : NameList) (v : Values) (table : ℕ → Table)
    → ((func : ℕ) (s : Signature) → slice_get signatures func ≡ Some s → function_tables read func s size names v ≡ table func ∷ [])
    → flat_map (λ c. ghosts.tables_of c size names v) (groups_of read signatures order) ≡ map table (flat_map ghosts.own (groups_of read signatures order))

-- the functions of all groups are those of the order
pub record OwnAll (read : Reading) (signatures : List Signature) (order : List ℕ) : Type 0 where
  pub inside : All (λ func. func < length signatures) (flat_map ghosts.own (groups_of read signatures order))
  pub whole : (func : ℕ) → Contains order func → func < length signatures → Contains (flat_map ghosts.own (groups_of read signatures order)) func

abbrev pub GroupsOwnAll : Type 0
GroupsOwnAll = (read : Reading) (signatures : List Signature) (order : List ℕ) → All (λ func. func < length signatures) order → OwnAll read signatures order
