-- The scopes of the tables of a structure are scopes of the tables of completions.
use Rattle.std.specs.Prelude.{ℕ, ◌≤◌, List, length}
use Rattle.hp_tree.specs.declared.problem.Sort.{Sort}
use Rattle.hp_tree.specs.declared.problem.Problem.{Problem}
use Rattle.hp_tree.specs.Limits.{most_arguments}
use Rattle.hp_model.specs.Scopes.{table_scope}
use Rattle.hp_local.specs.Sorts.{IsTableScope}

-- of a function with no more arguments than there are words for them
abbrev pub TableScopesFit : Type 0
TableScopesFit = (size : ℕ) (p : Problem) (sorts : List Sort) (level : ℕ) → length sorts ≤ most_arguments → IsTableScope size sorts (table_scope size p sorts level)
