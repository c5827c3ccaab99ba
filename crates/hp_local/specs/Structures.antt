-- Well-formed structures: their tables apply functions of lower levels alone, so that values by levels are the values that the
-- tables give.
use Rattle.std.specs.Prelude.{◌≡◌, ℕ, ◌≤◌, List, Option, Some, None}
use Rattle.std.specs.List.{All}
use Rattle.hp_math.specs.Rational.{ℚ}
use Rattle.hp_tree.specs.declared.problem.Problem.{Problem}
use Rattle.hp_tree.specs.Value.{Word}
use Rattle.hp_model.specs.declared.structure.Structure.{Structure}
use Rattle.hp_model.specs.Declarations.{DeclaredFunction, functions, function_named}
use Rattle.hp_model.specs.Value.{constant, functions_of, tables_value}
use Rattle.hp_model.specs.WellFormed.{WellFormed}
use Rattle.hp_local.specs.Fuel.{TablesAreLower}

-- the level of a function, and 0 where there is none
abbrev pub level_of : Option DeclaredFunction → ℕ
level_of None = 0
level_of (Some f) = f.level

abbrev pub declared_level : Problem → Word → ℕ
declared_level p word = level_of (function_named (functions p.decls) word)

-- no function is declared twice, and each has a level from 1 to 16
pub record IsLevelled (p : Problem) (f : DeclaredFunction) : Type 0 where
  pub first : function_named (functions p.decls) f.name ≡ Some f
  pub low : 1 ≤ f.level
  pub high : f.level ≤ 16

abbrev pub AreLevelled : Problem → Type 0
AreLevelled p = All (IsLevelled p) (functions p.decls)

abbrev pub WellFormedTablesAreLower : Type 0
WellFormedTablesAreLower = (s : Structure) (p : Problem) → WellFormed s p → AreLevelled p → TablesAreLower (declared_level p) s.tables

-- each function has the values of its table, over the functions of the structure itself
abbrev pub FunctionsFollowTables : Type 0
FunctionsFollowTables = (s : Structure) (p : Problem) → WellFormed s p → AreLevelled p → (word : Word) (args : List ℚ)
    → functions_of s word args ≡ tables_value (constant s.consts) (functions_of s) s.tables word args
