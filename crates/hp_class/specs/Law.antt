-- What the law of a class speaks of: what a group has made, and the tables of its functions.
use Rattle.std.specs.Prelude.{◌≡◌, ◌≤◌, ℕ, List, ◌++◌, map, length, Some, slice_get, true, false}
use Rattle.std.specs.List.{All, Contains}
use Rattle.hp_tree.specs.Limits.{most_lines}
use Rattle.hp_terms.specs.Scope.{Scope}
use Rattle.hp_names.specs.Names.{is_among}
use Rattle.hp_tree.specs.declared.problem.Sort.{Sort}
use Rattle.hp_lit.specs.Sorts.{HaveSorts}
use Rattle.hp_lit.specs.Truth.{Values}
use Rattle.hp_defs.specs.declared.names.Constant.{Constant}
use Rattle.hp_defs.specs.declared.names.Ground.{Ground}
use Rattle.hp_defs.specs.declared.names.Signature.{Signature}
use Rattle.hp_defs.specs.Fit.{IsFitNames}
use Rattle.hp_defs.specs.Made.{IsMade}
use Rattle.hp_defs.specs.Names.{BeginsNames, NameList, profile_of, sorts}
use Rattle.hp_model.specs.declared.structure.Table.{Table}
use Rattle.hp_model.specs.WellFormed.{IsSortedTable}
use Rattle.hp_local.specs.Applied.{table_applies}
use Rattle.hp_local.specs.Frame.{AreCongruent, IsTrueWithPoints}
use Rattle.hp_local.specs.Law.{Group}
use Rattle.hp_local.specs.Rows.{argument_words}
use Rattle.hp_local.specs.Sorts.{IsSortedFact, IsTableScope}
use Rattle.hp_base.specs.Values.{arg_values}
use Rattle.hp_norm.specs.declared.flat.FlatClause.{FlatClause}
use Rattle.hp_norm.specs.Sound.{Grew, IsSound, MakesOnly}
use Rattle.hp_norm.specs.Flat.{universal_of}
use Rattle.hp_class.specs.Frame.{facts_of, frame_at, is_function, is_place}
use Rattle.hp_class.specs.Group.{Planned}
use Rattle.hp_class.specs.Points.{points}

-- ---- what a class makes first
-- nothing that says more than before, and applications of these functions alone
pub record HasGrown (funcs : List ℕ) (before after : Ground) : Type 0 where
  pub grew : Grew before after
  pub sound : IsSound after
  pub few : length before.lines ≤ most_lines → length after.lines ≤ most_lines
  pub only : MakesOnly (is_place funcs) before.names after.names

-- ---- values at which the lines of a group are true
-- the clause is true at each of its tuples, whatever functions have the points of those that are meant
abbrev pub PlannedIsTrue : List ℕ → ℕ → NameList → Values → Planned → Type 0
PlannedIsTrue funcs size names v p = All (λ t. IsTrueWithPoints (frame_at size names v) (is_function names funcs) (universal_of p.clause) (arg_values v t.args)) p.tuples

-- a group has made its lines, `next`, from `start`; at values of all names, which may be more, its clauses are true at their
-- tuples and the points of each function are congruent
pub record IsModelled (own applied : List ℕ) (plan : List Planned) (size : ℕ) (start next : Ground) (names : NameList) (v : Values) : Type 0 where
  pub sound : IsSound start
  pub begins : BeginsNames next.names names
  pub made : IsMade names
  pub fit : IsFitNames names
  pub sorted : HaveSorts (sorts names) v
  pub congruent : AreCongruent (frame_at size names v).facts
  pub instances : All (PlannedIsTrue (own ++ applied) size names v) plan
  -- no later group has made an application of an own function
  pub complete : (func : ℕ) → Contains own func → points func names.definitions ≡ points func next.names.definitions

-- the group as one of functions by words
abbrev pub group_at : NameList → List ℕ → List FlatClause → List Table → Group
group_at names own clauses tables = record { own = λ word. is_function names own word; clauses = map universal_of clauses; tables = tables }

-- ---- tables
-- the points of a function have values of their sorts, in a universe of so many pointers
abbrev pub HasSortedPoints : ℕ → NameList → Values → ℕ → Type 0
HasSortedPoints size names v func = (signature : Signature) → slice_get names.signatures func ≡ Some signature
    → All (IsSortedFact size signature.args signature.result) (facts_of func signature.name names v)

-- so do those of each of these functions
abbrev pub HaveSortedPoints : List ℕ → ℕ → NameList → Values → Type 0
HaveSortedPoints funcs size names v = (func : ℕ) → Contains funcs func → HasSortedPoints size names v func

-- a scope in which the words of arguments have these sorts, all other constants theirs, and these functions their profiles
pub record IsScopeAt (size : ℕ) (names : NameList) (applied : List ℕ) (args : List Sort) (scope : Scope) : Type 0 where
  pub arguments : IsTableScope size args scope
  pub constants : (k : ℕ) (c : Constant) → slice_get names.constants k ≡ Some c → is_among c.name argument_words ≡ false → scope.name c.name ≡ Some c.sort
  pub functions : (k : ℕ) (signature : Signature) → Contains applied k → slice_get names.signatures k ≡ Some signature
      → scope.function signature.name ≡ Some (profile_of signature)

-- the table of the function at a place: it has its word and its number of arguments, fits the rules on sorts, and applies these
-- functions alone
pub record IsTableAt (size : ℕ) (names : NameList) (applied : List ℕ) (func : ℕ) (table : Table) : Type 0 where
  pub signature : Signature
  pub known : slice_get names.signatures func ≡ Some signature
  pub name : table.func ≡ signature.name
  pub arguments : table.args ≡ length signature.args
  pub applies : table_applies (λ word. is_function names applied word) table ≡ true
  pub sorted : (scope : Scope) → IsScopeAt size names applied signature.args scope → IsSortedTable scope signature.result table
