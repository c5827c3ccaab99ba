-- What clauses say that keep the rules one by one, where no pair of their cases is met.
use Rattle.std.specs.Prelude.{◌≡◌, ◌⊎◌, ◌<◌, ◌≤◌, ℕ, nat_eq, List, [], ◌∷◌, ◌++◌, map, length, true, ◌&&◌, Some, option_map, Ok, slice_get}
use Rattle.std.specs.List.{All, Contains, filter}
use Rattle.hp_tree.specs.Limits.{most_variables}
use Rattle.hp_tree.specs.declared.problem.Sort.TheVariants.{Num, Idx}
use Rattle.hp_tree.specs.declared.term.Term.{Term}
use Rattle.hp_tree.specs.Value.{Word}
use Rattle.hp_defs.specs.declared.names.Signature.{Signature}
use Rattle.hp_defs.specs.Made.{IsMade}
use Rattle.hp_defs.specs.Names.{NameList}
use Rattle.hp_norm.specs.declared.flat.FlatClause.{FlatClause}
use Rattle.hp_norm.specs.Flat.{IsFlat}
use Rattle.hp_class.specs.Frame.{signature_word}
use Rattle.hp_class.specs.Small.{HasFewArguments}
use Rattle.hp_flatten.specs.declared.application.Application.{Application}
use Rattle.hp_flatten.specs.Flattening.{flattened}
use Rattle.hp_flatten.specs.Laws.{HasPlainConstants, IsFlattenableClause}
use Rattle.hp_arrays.specs.Arrays.{IsArrayGroup}
use Rattle.hp_cases.specs.declared.case.Case.{Case}
use Rattle.hp_cases.specs.Cases.{IsByCases}
use Rattle.hp_pairs.specs.declared.branch.Branch.{Branch}
use Rattle.hp_pairs.specs.declared.branch.Given.{Given}
use Rattle.hp_pairs.specs.Answers.{BranchIsFit, IsUnmet}
use Rattle.hp_pairs.specs.Branches.{branches_of, pairs_from}
use Rattle.hp_rules.specs.declared.ruled.ArrayClause.{ArrayClause}
use Rattle.hp_rules.specs.declared.ruled.CaseClause.{CaseClause}
use Rattle.hp_rules.specs.declared.ruled.Ruled.{Ruled}
use Rattle.hp_rules.specs.Rules.{application_place, has_level, is_array, monotone_place, rules}

abbrev pub HasFewVariables : FlatClause → Type 0
HasFewVariables c = length c.vars ≤ most_variables

-- flat clauses over names that can be made, which keep the rules
pub record AreRuled (names : NameList) (clauses : List FlatClause) (ruled : Ruled) : Type 0 where
  pub made : IsMade names
  pub flat : All (IsFlat names) clauses
  pub constants : HasPlainConstants names
  pub few : All HasFewArguments names.signatures
  pub narrow : All HasFewVariables clauses
  pub ruled_is : rules names clauses ≡ Ok ruled

-- ---- rows
abbrev pub BranchesAreFit : Type 0
BranchesAreFit = (names : NameList) (clauses : List FlatClause) (ruled : Ruled) → AreRuled names clauses ruled → All BranchIsFit ruled.branches

-- ---- the class of a function with cases
abbrev pub given_term : Given → Term
given_term g = g.term

abbrev pub case_of : Branch → Case
case_of b = record { guard = b.guard; low = option_map given_term b.low; high = option_map given_term b.high }

-- the cases of the function at a place, and its clauses, in their order
abbrev pub cases_of : ℕ → List Branch → List Case
cases_of func branches = map case_of (branches_of func branches)

abbrev pub clause_of : CaseClause → FlatClause
clause_of k = k.clause

abbrev pub clauses_of : ℕ → List CaseClause → List FlatClause
clauses_of func clauses = map clause_of (filter (λ k. nat_eq k.func func) clauses)

-- it is by these cases, whose bounds apply no function
abbrev pub FunctionsAreByCases : Type 0
FunctionsAreByCases = (names : NameList) (clauses : List FlatClause) (ruled : Ruled) → AreRuled names clauses ruled → All IsUnmet (pairs_from ruled.branches 0 (length names.signatures))
    → (func : ℕ) (s : Signature) → slice_get names.signatures func ≡ Some s → (branches_of func ruled.branches ≡ [] → ⊥)
    → IsByCases names func s.name (length s.args) (clauses_of func ruled.clauses) (cases_of func ruled.branches) [] (func ∷ [])

-- ---- clauses
-- the clause is flattened, and it is one of a case then
pub record IsOfCases (names : NameList) (ruled : Ruled) (c : FlatClause) : Type 0 where
  pub application : Application
  pub able : IsFlattenableClause names c application
  pub func : ℕ
  pub place : application_place names application ≡ Some func
  pub there : Contains ruled.clauses (record { func = func; clause = flattened application c })

-- the clause is over arrays
pub record IsOverArrays (ruled : Ruled) (c : FlatClause) : Type 0 where
  pub read : ArrayClause
  pub there : Contains ruled.arrays read
  pub is : read.clause ≡ c

-- each clause has monotone shape, is of a case, or is over arrays
abbrev pub ClausesAreRead : Type 0
ClausesAreRead = (names : NameList) (clauses : List FlatClause) (ruled : Ruled) → AreRuled names clauses ruled
    → All (λ c. ((func : ℕ) × (monotone_place names c ≡ Some func)) ⊎ (IsOfCases names ruled c ⊎ IsOverArrays ruled c)) clauses

-- each clause of a case is a flattened one
pub record IsFromClause (names : NameList) (clauses : List FlatClause) (k : CaseClause) : Type 0 where
  pub source : FlatClause
  pub among : Contains clauses source
  pub application : Application
  pub able : IsFlattenableClause names source application
  pub place : application_place names application ≡ Some k.func
  pub is : k.clause ≡ flattened application source

abbrev pub CasesAreFromClauses : Type 0
CasesAreFromClauses = (names : NameList) (clauses : List FlatClause) (ruled : Ruled) → AreRuled names clauses ruled → All (IsFromClause names clauses) ruled.clauses

-- ---- functions
-- a function with cases has a clause of a case, and the other way round; it has none of monotone shape
pub record HasOwnCases (names : NameList) (clauses : List FlatClause) (ruled : Ruled) (func : ℕ) : Type 0 where
  pub clauses_have : (k : CaseClause) → Contains ruled.clauses k → k.func ≡ func → branches_of func ruled.branches ≡ [] → ⊥
  pub no_monotone : (c : FlatClause) → Contains clauses c → monotone_place names c ≡ Some func → branches_of func ruled.branches ≡ []
  pub within : (branches_of func ruled.branches ≡ [] → ⊥) → func < length names.signatures

abbrev pub CasesAreOwn : Type 0
CasesAreOwn = (names : NameList) (clauses : List FlatClause) (ruled : Ruled) → AreRuled names clauses ruled → (func : ℕ) → HasOwnCases names clauses ruled func

-- two places of clauses of monotone shape of one function are the same
abbrev pub MonotoneClausesAreOnce : Type 0
MonotoneClausesAreOnce = (names : NameList) (clauses : List FlatClause) (ruled : Ruled) → AreRuled names clauses ruled → (i j func : ℕ) (c d : FlatClause)
    → slice_get clauses i ≡ Some c → slice_get clauses j ≡ Some d → monotone_place names c ≡ Some func → monotone_place names d ≡ Some func → i ≡ j

-- ---- arrays
-- each clause over arrays is one of the clauses
abbrev pub ArraysAreClauses : Type 0
ArraysAreClauses = (names : NameList) (clauses : List FlatClause) (ruled : Ruled) → AreRuled names clauses ruled → All (λ k. Contains clauses k.clause) ruled.arrays

-- an array is of idx to num, so it has no clause of monotone shape and no cases
pub record IsArrayAt (names : NameList) (clauses : List FlatClause) (ruled : Ruled) (func : ℕ) : Type 0 where
  pub signature : Signature
  pub known : slice_get names.signatures func ≡ Some signature
  pub arguments : signature.args ≡ Idx ∷ []
  pub result : signature.result ≡ Num
  pub no_monotone : (c : FlatClause) → Contains clauses c → monotone_place names c ≡ Some func → ⊥
  pub no_cases : branches_of func ruled.branches ≡ []

abbrev pub ArraysAreKnown : Type 0
ArraysAreKnown = (names : NameList) (clauses : List FlatClause) (ruled : Ruled) → AreRuled names clauses ruled → (func : ℕ) → is_array ruled func ≡ true → IsArrayAt names clauses ruled func

-- the arrays of a level among functions at these places, in this order
abbrev pub own_arrays : Ruled → List Signature → List ℕ → ℕ → List ℕ
own_arrays ruled signatures order level = filter (λ func. is_array ruled func && has_level level (slice_get signatures func)) order

-- the words of the functions at these places
abbrev pub place_words : List Signature → List ℕ → List Word
place_words signatures [] = []
place_words signatures (func ∷ funcs) = signature_word (slice_get signatures func) ++ place_words signatures funcs

abbrev pub array_clause_of : ArrayClause → FlatClause
array_clause_of k = k.clause

-- the clauses over arrays of a level
abbrev pub array_clauses : ℕ → List ArrayClause → List FlatClause
array_clauses level ks = map array_clause_of (filter (λ k. nat_eq k.level level) ks)

-- those of a level are a group, among all functions in any order
abbrev pub ArraysAreGroups : Type 0
ArraysAreGroups = (names : NameList) (clauses : List FlatClause) (ruled : Ruled) → AreRuled names clauses ruled → (order : List ℕ)
    → ((func : ℕ) → func < length names.signatures → Contains order func) → (level : ℕ)
    → IsArrayGroup names (own_arrays ruled names.signatures order level) (place_words names.signatures (own_arrays ruled names.signatures order level)) (array_clauses level ruled.arrays)

-- the level of a clause over arrays is that of each of them
pub record HasArrays (names : NameList) (k : ArrayClause) : Type 0 where
  pub first : ℕ
  pub among : Contains k.funcs first
  pub each : All (λ func. has_level k.level (slice_get names.signatures func) ≡ true) k.funcs

abbrev pub ClausesHaveArrays : Type 0
ClausesHaveArrays = (names : NameList) (clauses : List FlatClause) (ruled : Ruled) → AreRuled names clauses ruled → All (HasArrays names) ruled.arrays
