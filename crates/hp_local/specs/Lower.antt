-- The functions that the tables of completions apply.
use Rattle.std.specs.Prelude.{◌≡◌, ℕ, List, Bool, true}
use Rattle.std.specs.List.{list_all}
use Rattle.hp_math.specs.Steps.{Point}
use Rattle.hp_tree.specs.Value.{Word}
use Rattle.hp_local.specs.Applied.{row_applies, table_applies}
use Rattle.hp_local.specs.Cases.{Case, case_row, case_table}
use Rattle.hp_local.specs.Fields.{field_table}
use Rattle.hp_local.specs.Frame.{Fact}
use Rattle.hp_local.specs.Free.{free_table}
use Rattle.hp_local.specs.Ordered.{step_table}

-- the tables of free functions, of step functions and of fields apply none, so each of them passes any test
abbrev pub FreeTablesApplyNone : Type 0
FreeTablesApplyNone = (test : Word → Bool) (func : Word) (count : ℕ) (facts : List Fact) → table_applies test (free_table func count facts) ≡ true

abbrev pub StepTablesApplyNone : Type 0
StepTablesApplyNone = (test : Word → Bool) (func : Word) (points : List Point) → table_applies test (step_table func points) ≡ true

abbrev pub FieldTablesApplyNone : Type 0
FieldTablesApplyNone = (test : Word → Bool) (size : ℕ) (gives : Word → Bool) (func : Word) (facts : List Fact) → table_applies test (field_table size gives facts func) ≡ true

-- those of cases apply what guards and bounds apply
abbrev pub CaseTablesApplyTheirs : Type 0
CaseTablesApplyTheirs = (test : Word → Bool) (func : Word) (count : ℕ) (facts : List Fact) (cases : List Case)
    → list_all (λ case. row_applies test (case_row case)) cases ≡ true → table_applies test (case_table func count facts cases) ≡ true
