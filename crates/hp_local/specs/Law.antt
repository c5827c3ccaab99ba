-- The extension law of a group of functions, and the induction over levels that it gives.
use Rattle.std.specs.Prelude.{◌≡◌, ℕ, suc, ◌≤◌, ◌<◌, List, Bool, false, ◌||◌, IsTrue}
use Rattle.std.specs.List.{All, Contains}
use Rattle.hp_math.specs.Rational.{ℚ}
use Rattle.hp_tree.specs.Universal.{Universal, HoldsAll}
use Rattle.hp_tree.specs.Value.{Word, Functions}
use Rattle.hp_model.specs.declared.structure.Table.{Table}
use Rattle.hp_model.specs.declared.structure.Structure.{Structure}
use Rattle.hp_model.specs.Value.{constant, tables_value, functions_of}
use Rattle.hp_local.specs.Applied.{clause_applies}
use Rattle.hp_local.specs.Fuel.{is_lower, TablesAreLower}
use Rattle.hp_local.specs.Frame.{Fact, HasPoint, with_tables, Frame, HavePoints}

-- the functions of a group, its clauses, and the tables that it gives its functions
pub record Group : Type 0 where
  pub own : Word → Bool
  pub clauses : List Universal
  pub tables : List Table

-- over all lower functions that have the points of the applied ones, the tables make each clause hold at every value, and
-- they have the group's points inside the universe
abbrev pub Completes : Frame → (Word → Bool) → Group → Type 0
Completes frame applied group =
    (lower : Functions) → ((k : Fact) → Contains frame.facts k → IsTrue (applied k.func) → HasPoint lower k)
    → All (HoldsAll frame.size frame.names (with_tables frame.consts lower group.tables)) group.clauses
    × HavePoints frame group.own (with_tables frame.consts lower group.tables)

-- a group of this level in a structure
pub record Stands (s : Structure) (level : Word → ℕ) (frame : Frame) (at : ℕ) (group : Group) : Type 0 where
  -- the lower functions that its clauses apply
  pub applied : Word → Bool
  pub own_level : (func : Word) → IsTrue (group.own func) → level func ≡ at
  pub applied_level : (func : Word) → IsTrue (applied func) → IsTrue (is_lower level at func)
  pub applies : All (λ u. IsTrue (clause_applies (λ func. group.own func || applied func) u)) group.clauses
  -- the structure has the group's tables
  pub own_tables : (lower : Functions) (func : Word) → IsTrue (group.own func) → (args : List ℚ)
      → with_tables frame.consts lower group.tables func args ≡ tables_value frame.consts lower s.tables func args
  pub other_tables : (lower : Functions) (func : Word) → group.own func ≡ false → (args : List ℚ)
      → with_tables frame.consts lower group.tables func args ≡ lower func args
  -- the points of the applied functions are inside the universe
  pub applied_inside : (k : Fact) → Contains frame.facts k → IsTrue (applied k.func) → IsTrue (frame.inside k)
  pub law : Completes frame applied group

-- a group of its level, from 1 to 16, for the function of a point
pub record IsCovered (level : Word → ℕ) (groups : ℕ → List Group) (k : Fact) : Type 0 where
  pub low : 1 ≤ level k.func
  pub high : level k.func ≤ 16
  pub group : Group
  pub among : Contains (groups (level k.func)) group
  pub owned : IsTrue (group.own k.func)

-- with the law in each group, the structure makes every clause hold and has every point inside the universe
abbrev pub LevelsComplete : Type 0
LevelsComplete = (s : Structure) (level : Word → ℕ) (frame : Frame) (groups : ℕ → List Group)
    → ((word : Word) → frame.consts word ≡ constant s.consts word)
    → TablesAreLower level s.tables
    → ((at : ℕ) → All (Stands s level frame at) (groups at))
    → ((k : Fact) → Contains frame.facts k → IsCovered level groups k)
    → ((at : ℕ) → at < 16 → All (λ group. All (HoldsAll frame.size frame.names (functions_of s)) group.clauses) (groups (suc at)))
    × ((k : Fact) → Contains frame.facts k → IsTrue (frame.inside k) → HasPoint (functions_of s) k)
