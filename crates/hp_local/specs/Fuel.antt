-- The functions of a structure by level: more levels than that of a function don't change its values.
use Rattle.std.specs.Prelude.{◌≡◌, ℕ, ◌≤◌, List, Bool, ◌&&◌, IsTrue, nat_lt}
use Rattle.std.specs.List.{All}
use Rattle.hp_math.specs.Rational.{ℚ}
use Rattle.hp_tree.specs.Value.{Word}
use Rattle.hp_model.specs.declared.structure.Table.{Table}
use Rattle.hp_model.specs.declared.structure.Structure.{Structure}
use Rattle.hp_model.specs.Value.{functions_below}
use Rattle.hp_local.specs.Applied.{table_applies}

-- a function of a level from 1 on, below the level that is given
abbrev pub is_lower : (Word → ℕ) → ℕ → Word → Bool
is_lower level most func = nat_lt 0 (level func) && nat_lt (level func) most

-- each table applies functions of lower levels alone
abbrev pub TablesAreLower : (Word → ℕ) → List Table → Type 0
TablesAreLower level tables = All (λ table. IsTrue (table_applies (is_lower level (level table.func)) table)) tables

-- a function has the same values wherever as many levels are counted as its own, or more
abbrev pub FuelIsEnough : Type 0
FuelIsEnough = (s : Structure) (level : Word → ℕ) → TablesAreLower level s.tables
    → (n m : ℕ) (func : Word) → 1 ≤ level func → level func ≤ n → level func ≤ m → (args : List ℚ) → functions_below n s func args ≡ functions_below m s func args
