-- What the lines of a group say.
use Rattle.std.specs.Prelude.{◌≡◌, ◌↔◌, ◌≤◌, ◌++◌, ℕ, Bool, List, [], ◌∷◌, length, Ok, Some, IsTrue, true, false, slice_get}
use Rattle.std.specs.List.{All, Contains}
use Rattle.hp_tree.specs.Limits.{most_lines}
use Rattle.hp_tree.specs.Universal.{clause_at}
use Rattle.hp_tree.specs.Value.{Environment, Functions, Word}
use Rattle.hp_lit.specs.declared.line.Arg.{Arg}
use Rattle.hp_lit.specs.Sorts.{HaveSorts}
use Rattle.hp_lit.specs.Truth.{Values}
use Rattle.hp_defs.specs.declared.names.Ground.{Ground}
use Rattle.hp_defs.specs.declared.names.Signature.{Signature}
use Rattle.hp_defs.specs.Made.{IsMade}
use Rattle.hp_defs.specs.Names.{BeginsNames, NameList, function_words, sorts}
use Rattle.hp_defs.specs.Fit.{IsFitNames}
use Rattle.hp_local.specs.Applied.{clause_applies}
use Rattle.hp_local.specs.Frame.{AreCongruent}
use Rattle.hp_local.specs.Rows.{own_facts}
use Rattle.hp_base.specs.Making.{Begins}
use Rattle.hp_base.specs.Values.{SumsHold, arg_values}
use Rattle.hp_norm.specs.declared.flat.FlatClause.{FlatClause}
use Rattle.hp_norm.specs.Laws.{WordsOfAtomPass}
use Rattle.hp_norm.specs.Sound.{AreTrue, AreValues, IsLater, IsSound, MakesOnly}
use Rattle.hp_norm.specs.Flat.{IsFlat, universal_of}
use Rattle.hp_instance.specs.Laws.{TupleFits}
use Rattle.hp_class.specs.Frame.{AreCongruentPoints, definition_facts, facts_of, frame_at, is_function, is_place}
use Rattle.hp_class.specs.Group.{PlanFits, Planned, group_lines}
use Rattle.hp_class.specs.Law.{HasGrown, IsModelled, PlannedIsTrue}
use Rattle.hp_class.specs.Points.{points}

-- a clause is true at each of its tuples
abbrev pub PlannedHolds : Environment → Functions → Values → Planned → Type 0
PlannedHolds env functions v p = All (λ t. clause_at env functions (universal_of p.clause) (arg_values v t.args) ≡ true) p.tuples

-- the lines of a group were added
pub record IsGrouped (own : List ℕ) (plan : List Planned) (before after : Ground) : Type 0 where
  pub begins : Begins before after
  pub sound : IsSound after
  pub few : length before.lines ≤ most_lines → length after.lines ≤ most_lines
  -- where definitions have the values of their bodies, they are true exactly where the clauses are at their tuples
  pub says : (end : Ground) (v : Values) (env : Environment) (functions : Functions) → IsLater after end → AreValues end v env functions → HaveSorts (sorts end.names) v
      → AreTrue v after.lines ↔ (AreTrue v before.lines × All (PlannedHolds env functions v) plan)
  -- at all values equal arguments of an own function then have equal values
  pub congruent : (end : Ground) (v : Values) → IsLater after end → HaveSorts (sorts end.names) v → AreTrue v after.lines
      → (func : ℕ) → Contains own func → AreCongruentPoints v (points func after.names.definitions)

abbrev pub GroupSays : Type 0
GroupSays = (own : List ℕ) (clauses : List FlatClause) (plan : NameList → List Planned) (done : Unit {0}) (before after : Ground)
    → IsSound before → PlanFits before.names clauses (plan before.names) → group_lines own plan before ≡ Ok (done, after) → IsGrouped own (plan before.names) before after

-- the points of a function in the frame are those of its applications, in the order of their making
abbrev pub OwnFactsArePoints : Type 0
OwnFactsArePoints = (names : NameList) (v : Values) (func : ℕ) (signature : Signature) → IsMade names → slice_get names.signatures func ≡ Some signature
    → own_facts signature.name (definition_facts names.signatures v names.definitions) ≡ facts_of func signature.name names v

-- and they are congruent where equal arguments of each function have equal values
abbrev pub FactsAreCongruent : Type 0
FactsAreCongruent = (size : ℕ) (names : NameList) (v : Values) → IsMade names
    → ((func : ℕ) (signature : Signature) → slice_get names.signatures func ≡ Some signature → AreCongruentPoints v (points func names.definitions))
    → AreCongruent (frame_at size names v).facts

-- ---- names that grow
abbrev pub FlatClausesStay : Type 0
FlatClausesStay = (old new : NameList) (c : FlatClause) → BeginsNames old new → IsMade new → IsFlat old c → IsFlat new c

abbrev pub TuplesStay : Type 0
TuplesStay = (old new : NameList) (c : FlatClause) (args : List Arg) → BeginsNames old new → IsMade new → IsFlat old c → TupleFits old c args → TupleFits new c args

-- ---- points
-- where the lines of a group are true and points are congruent, its clauses are true at their tuples whatever functions have the
-- points of those that they apply
abbrev pub ClausesHoldWithPoints : Type 0
ClausesHoldWithPoints = (own funcs : List ℕ) (plan : List Planned) (before after end : Ground) (size : ℕ) (v : Values) → IsGrouped own plan before after → IsLater after end
    → IsFitNames end.names → HaveSorts (sorts end.names) v → SumsHold end.names v → AreCongruent (frame_at size end.names v).facts → AreTrue v after.lines
    → All (λ p. IsTrue (clause_applies (is_function end.names funcs) (universal_of p.clause))) plan → All (PlannedIsTrue funcs size end.names v) plan

-- ---- groups one after the other
-- the turn of a group: what it made first, its lines, and what came after them
pub record HasTurn {C : Type 0} (own applied : C → List ℕ) (plan : C → NameList → List Planned) (IsLent : C → NameList → Type 0) (start end : Ground) (c : C) : Type 0 where
  pub before : Ground
  pub mid : Ground
  pub next : Ground
  pub begins : Begins start before
  pub grown : HasGrown (own c ++ applied c) before mid
  pub lent : IsLent c mid.names
  pub sound : IsSound mid
  pub made : group_lines (own c) (plan c) mid ≡ Ok (tt, next)
  pub grouped : IsGrouped (own c) (plan c mid.names) mid next
  pub rest : Begins next end

-- no function of a group is one of a later group, or one that a later group's clauses apply
abbrev pub AreApart : {C : Type 0} → (C → List ℕ) → (C → List ℕ) → List C → Type 0
AreApart own applied [] = Unit {0}
AreApart own applied (c ∷ cs) = ((func : ℕ) → Contains (own c) func → All (λ d. is_place (own d ++ applied d) func ≡ false) cs) × AreApart own applied cs

-- then no application of its functions is made after its turn
pub record HasWholeTurn {C : Type 0} (own applied : C → List ℕ) (plan : C → NameList → List Planned) (IsLent : C → NameList → Type 0) (start end : Ground) (c : C) : Type 0 where
  pub turn : HasTurn own applied plan IsLent start end c
  pub complete : (func : ℕ) → Contains (own c) func → points func end.names.definitions ≡ points func turn.next.names.definitions

-- where all lines are true in the end, and no application of an own function was made after the turn, what the group has made is
-- what the law of its class asks for
abbrev pub TurnsAreModelled : Type 0
TurnsAreModelled = (own applied : List ℕ) (plan : List Planned) (mid next end : Ground) (size : ℕ) (v : Values) → IsSound mid → IsGrouped own plan mid next → IsSound end → Begins next end
    → HaveSorts (sorts end.names) v → AreCongruent (frame_at size end.names v).facts → AreTrue v end.lines
    → All (λ p. IsTrue (clause_applies (is_function end.names (own ++ applied)) (universal_of p.clause))) plan
    → ((func : ℕ) → Contains own func → points func end.names.definitions ≡ points func next.names.definitions)
    → IsModelled own applied plan size mid next end.names v

-- ---- which functions are applied
-- each function that a clause applies passes the test
pub record ClausePasses (test : ℕ → Bool) (functions : List Word) (c : FlatClause) : Type 0 where
  pub guard : All (WordsOfAtomPass test functions) c.guard
  pub head : All (WordsOfAtomPass test functions) c.head

-- so it is with a clause that applies functions at these places alone
abbrev pub ClausesPass : Type 0
ClausesPass = (names : NameList) (funcs : List ℕ) (c : FlatClause) → IsMade names → IsTrue (clause_applies (is_function names funcs) (universal_of c))
    → ClausePasses (is_place funcs) (function_words names) c

-- the lines of a group make applications of functions that its clauses apply, and of no other ones
abbrev pub GroupMakesOnly : Type 0
GroupMakesOnly = (test : ℕ → Bool) (own : List ℕ) (plan : NameList → List Planned) (done : Unit {0}) (before after : Ground)
    → All (λ p. ClausePasses test (function_words before.names) p.clause) (plan before.names) → group_lines own plan before ≡ Ok (done, after) → MakesOnly test before.names after.names

-- the applications of a function that doesn't pass the test stay as they were
abbrev pub PointsStay : Type 0
PointsStay = (test : ℕ → Bool) (func : ℕ) (old new : Ground) → Begins old new → MakesOnly test old.names new.names → test func ≡ false
    → points func new.names.definitions ≡ points func old.names.definitions
