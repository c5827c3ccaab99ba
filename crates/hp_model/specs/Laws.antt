-- What clauses without variables say, and what values well-formed structures have.
use Rattle.std.specs.Prelude.{◌≡◌, ◌↔◌, ℕ, List, [], ◌||◌, not, true, IsTrue, Some}
use Rattle.hp_math.specs.Rational.{ℚ}
use Rattle.hp_tree.specs.declared.problem.Sort.{Sort}
use Rattle.hp_tree.specs.declared.problem.Clause.{Clause}
use Rattle.hp_tree.specs.declared.problem.Problem.{Problem}
use Rattle.hp_tree.specs.Sorted.{is_of_sort}
use Rattle.hp_tree.specs.Value.{Word, all_true, one_true}
use Rattle.hp_terms.specs.Laws.{AreOfSort, KeepsSorts}
use Rattle.hp_model.specs.declared.structure.Structure.{Structure}
use Rattle.hp_model.specs.Declarations.{DeclaredFunction, functions, function_named}
use Rattle.hp_model.specs.Scopes.{declared_scope, table_scope}
use Rattle.hp_model.specs.Value.{constant, functions_below, functions_of, with_arguments}
use Rattle.hp_model.specs.WellFormed.{TablesFit, WellFormed}
use Rattle.hp_model.specs.Satisfies.{Holds}

-- a clause without variables holds exactly where a guard atom is false, or a head atom is true
abbrev pub PlainClausesHold : Type 0
PlainClausesHold = (s : Structure) (clause : Clause) → clause.vars ≡ []
    → Holds s clause ↔ ((not (all_true (constant s.consts) (functions_of s) clause.guard) || one_true (constant s.consts) (functions_of s) clause.head) ≡ true)

-- ---- well-formed structures
-- at arguments of its sorts a function has a value of the sort of its result, however many levels are counted
abbrev pub FunctionsHaveSorts : Type 0
FunctionsHaveSorts = (s : Structure) (p : Problem) → WellFormed s p → (levels : ℕ) (word : Word) (f : DeclaredFunction) (args : List ℚ)
    → function_named (functions p.decls) word ≡ Some f → AreOfSort s.universe f.profile.args args
    → IsTrue (is_of_sort s.universe f.profile.result (functions_below levels s word args))

-- constants and functions have values of the sorts that are declared
abbrev pub DeclaredScopesKeepSorts : Type 0
DeclaredScopesKeepSorts = (s : Structure) (p : Problem) → WellFormed s p → KeepsSorts s.universe (declared_scope p) (constant s.consts) (functions_of s)

-- and so have the arguments in a table, the constants and the functions of lower levels
abbrev pub TableScopesKeepSorts : Type 0
TableScopesKeepSorts = (s : Structure) (p : Problem) (sorts : List Sort) (level : ℕ) (args : List ℚ) → WellFormed s p → AreOfSort s.universe sorts args
    → (levels : ℕ) → KeepsSorts s.universe (table_scope s.universe p sorts level) (with_arguments args (constant s.consts)) (functions_below levels s)

-- where no function is declared, exactly the structures without tables fit
abbrev pub NoFunctionsNoTables : Type 0
NoFunctionsNoTables = (s : Structure) (p : Problem) → functions p.decls ≡ [] → TablesFit s.universe p (functions p.decls) s.tables ↔ (s.tables ≡ [])
