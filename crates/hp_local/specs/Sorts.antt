-- Rows and tables that fit the rules on sorts.
use Rattle.std.specs.Prelude.{◌≡◌, ℕ, ◌≤◌, List, [], ◌∷◌, Some, IsTrue, true, if◌then◌else◌, Bool}
use Rattle.std.specs.List.{All}
use Rattle.hp_math.specs.Rational.{ℚ}
use Rattle.hp_math.specs.Steps.{Point}
use Rattle.hp_tree.specs.declared.problem.Cmp.TheVariants.{Lt}
use Rattle.hp_tree.specs.declared.problem.Sort.{Sort}
use Rattle.hp_tree.specs.declared.problem.Sort.TheVariants.{Num, Ptr}
use Rattle.hp_tree.specs.Sorted.{is_of_sort}
use Rattle.hp_tree.specs.Value.{Word}
use Rattle.hp_terms.specs.Scope.{Scope}
use Rattle.hp_terms.specs.Sorting.{forms_of, has_form, relates}
use Rattle.hp_terms.specs.Laws.{AreOfSort}
pub use Rattle.hp_model.specs.WellFormed.{IsSortedRow, IsSortedTable}
use Rattle.hp_local.specs.Cases.{Case, case_row, case_table}
use Rattle.hp_local.specs.Fields.{IsFieldFact, field_table}
use Rattle.hp_local.specs.Frame.{Fact}
use Rattle.hp_local.specs.Ordered.{step_table}
use Rattle.hp_local.specs.Rows.{argument_words, number_term, own_facts, point_rows}
use Rattle.hp_local.specs.Free.{free_table}

-- a word for each sort, and it has that sort
abbrev pub HaveSorts : Scope → List Word → List Sort → Type 0
HaveSorts scope words [] = Unit {0}
HaveSorts scope [] (sort ∷ sorts) = ⊥
HaveSorts scope (word ∷ words) (sort ∷ sorts) = (scope.name word ≡ Some sort) × HaveSorts scope words sorts

-- a scope of tables of functions with these sorts of arguments, in a universe of so many pointers
pub record IsTableScope (size : ℕ) (sorts : List Sort) (scope : Scope) : Type 0 where
  pub arguments : HaveSorts scope argument_words sorts
  pub pointers : (number : ℚ) → IsTrue (is_of_sort size Ptr number) → scope.pointer number ≡ true

-- the arguments of a point and its value have these sorts
pub record IsSortedFact (size : ℕ) (sorts : List Sort) (result : Sort) (k : Fact) : Type 0 where
  pub args : AreOfSort size sorts k.args
  pub value : IsTrue (is_of_sort size result k.value)

-- the term of a number has each sort that the number has
abbrev pub NumbersAreSorted : Type 0
NumbersAreSorted = (size : ℕ) (sorts : List Sort) (scope : Scope) → IsTableScope size sorts scope
    → (sort : Sort) (number : ℚ) → IsTrue (is_of_sort size sort number) → has_form (forms_of scope (number_term number)) sort ≡ true

-- the rows of sorted points are sorted
abbrev pub PointRowsAreSorted : Type 0
PointRowsAreSorted = (size : ℕ) (sorts : List Sort) (result : Sort) (scope : Scope) (facts : List Fact) → IsTableScope size sorts scope
    → All (IsSortedFact size sorts result) facts → All (IsSortedRow scope result) (point_rows facts)

-- and so is the table of a free function
abbrev pub FreeTablesAreSorted : Type 0
FreeTablesAreSorted = (size : ℕ) (sorts : List Sort) (result : Sort) (scope : Scope) (func : Word) (count : ℕ) (facts : List Fact) → 1 ≤ size
    → IsTableScope size sorts scope → All (IsSortedFact size sorts result) facts → IsSortedTable scope result (free_table func count facts)

-- the argument and the value of a point of a step function have these sorts
pub record IsSortedPoint (size : ℕ) (sort result : Sort) (p : Point) : Type 0 where
  pub at : IsTrue (is_of_sort size sort p.at)
  pub value : IsTrue (is_of_sort size result p.value)

-- and that of a step function whose argument has an order
abbrev pub StepTablesAreSorted : Type 0
StepTablesAreSorted = (size : ℕ) (sort result : Sort) (scope : Scope) (func : Word) (points : List Point) → 1 ≤ size → relates sort Lt ≡ true
    → IsTableScope size (sort ∷ []) scope → All (IsSortedPoint size sort result) points → IsSortedTable scope result (step_table func points)

-- and that of cases whose guards and bounds are sorted
abbrev pub IsSortedCase : Scope → Sort → Case → Type 0
IsSortedCase scope result case = IsSortedRow scope result (case_row case)

abbrev pub CaseTablesAreSorted : Type 0
CaseTablesAreSorted = (size : ℕ) (sorts : List Sort) (result : Sort) (scope : Scope) (func : Word) (count : ℕ) (facts : List Fact) (cases : List Case) → 1 ≤ size
    → IsTableScope size sorts scope → All (IsSortedFact size sorts result) facts → All (IsSortedCase scope result) cases
    → IsSortedTable scope result (case_table func count facts cases)

-- and that of a field, which gives pointers or fractions
abbrev pub field_sort : Bool → Sort
field_sort gives = if gives then Ptr else Num

abbrev pub FieldTablesAreSorted : Type 0
FieldTablesAreSorted = (size : ℕ) (gives : Word → Bool) (scope : Scope) (func : Word) (facts : List Fact) → 1 ≤ size
    → IsTableScope size (Ptr ∷ []) scope → All (IsFieldFact (gives func)) (own_facts func facts) → IsSortedTable scope (field_sort (gives func)) (field_table size gives facts func)
