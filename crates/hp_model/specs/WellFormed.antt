-- A structure that fits a problem: it has exactly the constants and the functions of the problem, both in the order of their
-- declarations, with values of their sorts and tables that fit the rules on sorts.
use Rattle.std.specs.Prelude.{◌≡◌, ℕ, ◌≤◌, List, [], ◌∷◌, length, IsTrue, true}
use Rattle.std.specs.List.{All}
use Rattle.hp_tree.specs.declared.problem.Sort.{Sort}
use Rattle.hp_tree.specs.declared.problem.Problem.{Problem}
use Rattle.hp_tree.specs.Sorted.{is_of_sort}
use Rattle.hp_terms.specs.Scope.{Scope}
use Rattle.hp_terms.specs.Sorting.{atom_is_sorted, forms_of, has_form}
use Rattle.hp_model.specs.declared.structure.ConstValue.{ConstValue}
use Rattle.hp_model.specs.declared.structure.Row.{Row}
use Rattle.hp_model.specs.declared.structure.Table.{Table}
use Rattle.hp_model.specs.declared.structure.Structure.{Structure}
pub use Rattle.hp_model.specs.Declarations.{Declared, constants}
use Rattle.hp_model.specs.Declarations.{DeclaredFunction, functions}
use Rattle.hp_model.specs.Scopes.{table_scope}

abbrev pub ConstantsFit : ℕ → List Declared → List ConstValue → Type 0
ConstantsFit size [] [] = Unit {0}
ConstantsFit size (d ∷ ds) (c ∷ cs) = (c.name ≡ d.name) × IsTrue (is_of_sort size d.sort c.value) × ConstantsFit size ds cs
ConstantsFit size _ _ = ⊥

-- ---- tables
-- each atom of the guard is sorted, and the term has the sort
pub record IsSortedRow (scope : Scope) (sort : Sort) (row : Row) : Type 0 where
  pub guard : All (λ atom. atom_is_sorted scope atom ≡ true) row.guard
  pub value : has_form (forms_of scope row.value) sort ≡ true

pub record IsSortedTable (scope : Scope) (sort : Sort) (table : Table) : Type 0 where
  pub rows : All (IsSortedRow scope sort) table.rows
  pub otherwise : has_form (forms_of scope table.otherwise) sort ≡ true

-- the table of a function, whose atoms and terms apply functions of lower levels alone
pub record IsTableOf (size : ℕ) (p : Problem) (f : DeclaredFunction) (table : Table) : Type 0 where
  pub name : table.func ≡ f.name
  pub arguments : table.args ≡ length f.profile.args
  pub sorted : IsSortedTable (table_scope size p f.profile.args f.level) f.profile.result table

abbrev pub TablesFit : ℕ → Problem → List DeclaredFunction → List Table → Type 0
TablesFit size p [] [] = Unit {0}
TablesFit size p (f ∷ fs) (table ∷ tables) = IsTableOf size p f table × TablesFit size p fs tables
TablesFit size p _ _ = ⊥

-- ---- structures
pub record WellFormed (s : Structure) (p : Problem) : Type 0 where
  pub universe : 1 ≤ s.universe
  pub constants_fit : ConstantsFit s.universe (constants p.decls) s.consts
  pub tables_fit : TablesFit s.universe p (functions p.decls) s.tables
