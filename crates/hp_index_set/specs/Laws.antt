-- What index sets have, and how long they stay.
use Rattle.std.specs.Prelude.{◌≡◌, ℕ, List, [], ◌∷◌, Some, slice_get}
use Rattle.std.specs.List.{All, Contains}
use Rattle.hp_tree.specs.declared.problem.Sort.TheVariants.{Idx}
use Rattle.hp_lit.specs.Growing.{Begins}
use Rattle.hp_lit.specs.declared.line.Arg.{Arg}
use Rattle.hp_defs.specs.declared.names.Signature.{Signature}
use Rattle.hp_defs.specs.Fit.{ArgFits, IsFitNames}
use Rattle.hp_defs.specs.Made.{IsMade, IsSmallArg}
use Rattle.hp_defs.specs.Names.{BeginsNames, NameList, sorts}
use Rattle.hp_norm.specs.declared.flat.FlatClause.{FlatClause}
use Rattle.hp_norm.specs.Flat.{IsFlat}
use Rattle.hp_index_set.specs.IndexSet.{applied_at, guard_bounds, index_set, with_indexes}

-- the arguments of the applications of these functions, each once
abbrev pub applied_indexes : List ℕ → NameList → List Arg
applied_indexes own names = with_indexes [] (applied_at own names.definitions)

-- ---- what is in the index set
-- each argument of an application
abbrev pub AppliedAreIndexes : Type 0
AppliedAreIndexes = (own : List ℕ) (clauses : List FlatClause) (names : NameList) (x : Arg) → Contains (applied_at own names.definitions) x → Contains (index_set own clauses names) x

-- each bound of a guard
abbrev pub BoundsAreIndexes : Type 0
BoundsAreIndexes = (own : List ℕ) (clauses : List FlatClause) (names : NameList) (c : FlatClause) (x : Arg) → Contains clauses c → Contains (guard_bounds names c) x
    → Contains (index_set own clauses names) x

-- and there is one
abbrev pub ThereAreIndexes : Type 0
ThereAreIndexes = (own : List ℕ) (clauses : List FlatClause) (names : NameList) → index_set own clauses names ≡ [] → ⊥

-- ---- how long it stays
-- while own functions are applied along it: the arguments of their applications are its first entries
abbrev pub IndexSetsStay : Type 0
IndexSetsStay = (own : List ℕ) (clauses : List FlatClause) (before after : NameList) → IsMade before → IsMade after → BeginsNames before after → All (IsFlat before) clauses
    → Begins (applied_indexes own after) (index_set own clauses before) → index_set own clauses after ≡ index_set own clauses before

-- ---- sorts and sizes
-- a function of one argument, an index
pub record HasIndexArgument (names : NameList) (func : ℕ) : Type 0 where
  pub signature : Signature
  pub known : slice_get names.signatures func ≡ Some signature
  pub arguments : signature.args ≡ Idx ∷ []

-- an index over names, with a small number
pub record IsFitIndex (names : NameList) (x : Arg) : Type 0 where
  pub fits : ArgFits (sorts names) Idx x
  pub small : IsSmallArg x

abbrev pub IndexesAreSmall : Type 0
IndexesAreSmall = (own : List ℕ) (clauses : List FlatClause) (names : NameList) → IsMade names → IsFitNames names → All (HasIndexArgument names) own → All (IsFlat names) clauses
    → All (IsFitIndex names) (index_set own clauses names)

-- ---- a pass over it
-- with a further application at each of its entries, in their order, it is the arguments of all applications
abbrev pub PassesCover : Type 0
PassesCover = (own : List ℕ) (clauses : List FlatClause) (names : NameList) → IsMade names → IsFitNames names → All (HasIndexArgument names) own
    → with_indexes (applied_indexes own names) (index_set own clauses names) ≡ index_set own clauses names
