-- What groups of one class add one after the other, by what the class says of itself.
use Rattle.std.specs.Prelude.{◌≡◌, ◌≤◌, ℕ, List, ◌++◌, length, Ok, Some, IsTrue, slice_get}
use Rattle.std.specs.List.{All, Contains}
use Rattle.hp_tree.specs.Limits.{most_lines}
use Rattle.hp_tree.specs.declared.problem.Sort.{Sort}
use Rattle.hp_tree.specs.Sorted.{is_of_sort}
use Rattle.hp_tree.specs.Universal.{HoldsAll}
use Rattle.hp_tree.specs.Value.{Environment, Functions}
use Rattle.hp_lit.specs.Sorts.{HaveSorts}
use Rattle.hp_lit.specs.Truth.{Values, name_value}
use Rattle.hp_defs.specs.declared.names.Ground.{Ground}
use Rattle.hp_defs.specs.Fit.{IsFitNames}
use Rattle.hp_defs.specs.Made.{IsMade}
use Rattle.hp_defs.specs.Names.{BeginsNames, NameList, sorts}
use Rattle.hp_local.specs.Applied.{clause_applies}
use Rattle.hp_local.specs.Frame.{AreCongruent}
use Rattle.hp_base.specs.Making.{Begins, Maker, in_turn}
use Rattle.hp_norm.specs.declared.flat.FlatClause.{FlatClause}
use Rattle.hp_norm.specs.Flat.{universal_of}
use Rattle.hp_norm.specs.Sound.{AreTrue, AreValues, IsLater, IsSound}
use Rattle.hp_class.specs.Frame.{AreCongruentPoints, frame_at, is_function}
use Rattle.hp_class.specs.Group.{PlanFits, Planned, class_step, group_lines}
use Rattle.hp_class.specs.Law.{HasGrown, IsModelled}
use Rattle.hp_class.specs.Laws.{AreApart}
use Rattle.hp_class.specs.Points.{points}

-- ---- values
-- each name has a value of its sort, in a universe of so many pointers
abbrev pub AreInside : ℕ → List Sort → Values → Type 0
AreInside size sorts v = (n : ℕ) (s : Sort) → slice_get sorts n ≡ Some s → IsTrue (is_of_sort size s (name_value v n))

-- ---- a class
-- its laws but for those of tables
pub record IsClass {C : Type 0} (grow : C → Maker (Unit {0})) (own applied : C → List ℕ) (clauses : C → List FlatClause) (plan : C → NameList → List Planned) (IsLent : C → NameList → Type 0) : Type 0 where
  pub stays : (c : C) (old new : NameList) → IsLent c old → BeginsNames old new → IsMade new → IsLent c new
  pub grows : (c : C) (done : Unit {0}) (before after : Ground) → IsLent c before.names → IsSound before → grow c before ≡ Ok (done, after) → HasGrown (own c ++ applied c) before after
  pub fits : (c : C) (names : NameList) → IsLent c names → IsMade names → IsFitNames names → PlanFits names (clauses c) (plan c names)
  pub applies : (c : C) (names : NameList) → IsLent c names → All (λ k. IsTrue (clause_applies (is_function names (own c ++ applied c)) (universal_of k))) (clauses c)

-- groups that are apart have made a ground set from a sound one
pub record HaveDescended {C : Type 0} (grow : C → Maker (Unit {0})) (own applied : C → List ℕ) (clauses : C → List FlatClause) (plan : C → NameList → List Planned) (IsLent : C → NameList → Type 0)
    (groups : List C) (start end : Ground) : Type 0 where
  pub law : IsClass grow own applied clauses plan IsLent
  pub sound : IsSound start
  pub lent : All (λ c. IsLent c start.names) groups
  pub apart : AreApart own applied groups
  pub made : in_turn (class_step grow own plan) groups start ≡ Ok (tt, end)

-- ---- what was made can be decided
pub record HasBeenMade (start end : Ground) : Type 0 where
  pub begins : Begins start end
  pub sound : IsSound end
  pub few : length start.lines ≤ most_lines → length end.lines ≤ most_lines

abbrev pub GroupsAreSound : Type 1
GroupsAreSound = (C : Type 0) (grow : C → Maker (Unit {0})) (own applied : C → List ℕ) (clauses : C → List FlatClause) (plan : C → NameList → List Planned) (IsLent : C → NameList → Type 0)
    (groups : List C) (start end : Ground) → HaveDescended grow own applied clauses plan IsLent groups start end → HasBeenMade start end

-- ---- where the clauses hold
-- at all values, in functions that give definitions the values of their bodies, lines that were true stay so
abbrev pub GroupsKeepTruth : Type 1
GroupsKeepTruth = (C : Type 0) (grow : C → Maker (Unit {0})) (own applied : C → List ℕ) (clauses : C → List FlatClause) (plan : C → NameList → List Planned) (IsLent : C → NameList → Type 0)
    (groups : List C) (start end last : Ground) (size : ℕ) (v : Values) (env : Environment) (functions : Functions) → HaveDescended grow own applied clauses plan IsLent groups start end
    → IsLater end last → AreValues last v env functions → HaveSorts (sorts last.names) v → 1 ≤ size → AreInside size (sorts last.names) v
    → All (λ c. All (λ k. HoldsAll size env functions (universal_of k)) (clauses c)) groups → AreTrue v start.lines → AreTrue v end.lines

-- ---- where the lines are true
-- equal arguments of a function of a group have equal values
abbrev pub GroupsAreCongruent : Type 1
GroupsAreCongruent = (C : Type 0) (grow : C → Maker (Unit {0})) (own applied : C → List ℕ) (clauses : C → List FlatClause) (plan : C → NameList → List Planned) (IsLent : C → NameList → Type 0)
    (groups : List C) (start end : Ground) (v : Values) → HaveDescended grow own applied clauses plan IsLent groups start end → HaveSorts (sorts end.names) v → AreTrue v end.lines
    → (c : C) (func : ℕ) → Contains groups c → Contains (own c) func → AreCongruentPoints v (points func end.names.definitions)

-- what a group has made in its turn is what the law of its class asks for
pub record IsModelledTurn {C : Type 0} (own applied : C → List ℕ) (plan : C → NameList → List Planned) (IsLent : C → NameList → Type 0) (size : ℕ) (names : NameList) (v : Values) (c : C) : Type 0 where
  pub mid : Ground
  pub next : Ground
  pub lent : IsLent c mid.names
  pub made : group_lines (own c) (plan c) mid ≡ Ok (tt, next)
  pub modelled : IsModelled (own c) (applied c) (plan c mid.names) size mid next names v

abbrev pub GroupsAreModelled : Type 1
GroupsAreModelled = (C : Type 0) (grow : C → Maker (Unit {0})) (own applied : C → List ℕ) (clauses : C → List FlatClause) (plan : C → NameList → List Planned) (IsLent : C → NameList → Type 0)
    (groups : List C) (start end : Ground) (size : ℕ) (v : Values) → HaveDescended grow own applied clauses plan IsLent groups start end → HaveSorts (sorts end.names) v
    → AreCongruent (frame_at size end.names v).facts → AreTrue v end.lines → All (IsModelledTurn own applied plan IsLent size end.names v) groups
