-- The completion of a function by cases: no two guards are true together, and the bounds of each case are in order.
use Rattle.std.specs.Prelude.{◌≡◌, ℕ, ◌≤◌, List, [], ◌∷◌, ◌++◌, map, length, Bool, false, ◌||◌, not, IsTrue, pos, Option, Some, None}
use Rattle.std.specs.Str.{bytes_eq}
use Rattle.std.specs.List.{list_all, All, Contains}
use Rattle.hp_math.specs.Rational.{ℚ, whole, le_ℚ, eq_ℚ, ◌≤ℚ◌}
use Rattle.hp_tree.specs.Limits.{most_arguments}
use Rattle.hp_tree.specs.declared.term.Term.{Term, Number}
use Rattle.hp_tree.specs.declared.problem.Atom.{Atom}
use Rattle.hp_tree.specs.Universal.{Universal, clause_at}
use Rattle.hp_tree.specs.Value.{Word, Environment, Functions, value, all_true}
use Rattle.hp_model.specs.declared.structure.Row.{Row}
use Rattle.hp_model.specs.declared.structure.Table.{Table}
use Rattle.hp_model.specs.Value.{with_arguments}
use Rattle.hp_local.specs.Applied.{applies_only, atom_applies}
use Rattle.hp_local.specs.Frame.{Fact, AreCongruent, Frame, IsTrueWithPoints}
use Rattle.hp_local.specs.Law.{Group, Completes}
use Rattle.hp_local.specs.Rows.{own_facts, HaveArguments, point_rows}

-- ---- cases
-- a guard over the words of the arguments, and the bounds of the function where it is true; at least one bound is there
pub record Case : Type 0 where
  pub guard : List Atom
  pub low : Option Term
  pub high : Option Term

-- the lower bound, or the upper one where there is no lower one
abbrev pub bound_term : Option Term → Option Term → Term
bound_term (Some s) high = s
bound_term None (Some t) = t
bound_term None None = Number (whole (pos 0))

abbrev pub case_term : Case → Term
case_term case = bound_term case.low case.high

abbrev pub case_row : Case → Row
case_row case = record { guard = case.guard; value = case_term case }

-- the points first
abbrev pub case_table : Word → ℕ → List Fact → List Case → Table
case_table func count facts cases = record { func = func; args = count; rows = point_rows facts ++ map case_row cases; otherwise = Number (whole (pos 0)) }

abbrev pub case_group : Frame → Word → ℕ → List Case → List Universal → Group
case_group frame func count cases clauses =
    record { own = bytes_eq func; clauses = clauses; tables = case_table func count (own_facts func frame.facts) cases ∷ [] }

-- ---- clauses of cases
-- what a clause asks of the value of the function
pub data Bound : Type 0 where
  Low : Term → Bound
  High : Term → Bound
  Same : Term → Bound

abbrev pub bound_is_true : Environment → Functions → Bound → ℚ → Bool
bound_is_true names functions (Low s) v = le_ℚ (value names functions s) v
bound_is_true names functions (High t) v = le_ℚ v (value names functions t)
bound_is_true names functions (Same s) v = eq_ℚ v (value names functions s)

abbrev pub IsBoundOf : Option Term → Option Term → Bound → Type 0
IsBoundOf low high (Low s) = low ≡ Some s
IsBoundOf low high (High t) = high ≡ Some t
IsBoundOf low high (Same s) = (low ≡ Some s) × (high ≡ Some s)

abbrev pub bound_applies : (Word → Bool) → Bound → Bool
bound_applies test (Low s) = applies_only test s
bound_applies test (High s) = applies_only test s
bound_applies test (Same s) = applies_only test s

-- the clause says of its values that the guard of a case bounds the function
pub record IsOfCase (frame : Frame) (func : Word) (count : ℕ) (applied : Word → Bool) (cases : List Case) (u : Universal) : Type 0 where
  pub case : Case
  pub among : Contains cases case
  pub bound : Bound
  pub of_case : IsBoundOf case.low case.high bound
  pub arguments : length u.vars ≡ count
  pub guard_applies : IsTrue (list_all (atom_applies applied) case.guard)
  pub term_applies : IsTrue (applies_only applied (case_term case))
  pub bound_applies_lower : IsTrue (bound_applies applied bound)
  pub says : (functions : Functions) (xs : List ℚ) → length xs ≡ count
      → clause_at frame.names functions u xs
      ≡ (not (all_true (with_arguments xs frame.consts) functions case.guard) || bound_is_true (with_arguments xs frame.consts) functions bound (functions func xs))

-- no values make both guards true
abbrev pub AreApart : Environment → Case → Case → Type 0
AreApart consts j k = (functions : Functions) (xs : List ℚ) → IsTrue (all_true (with_arguments xs consts) functions j.guard) → IsTrue (all_true (with_arguments xs consts) functions k.guard) → ⊥

abbrev pub AreDisjoint : Environment → List Case → Type 0
AreDisjoint consts [] = Unit {0}
AreDisjoint consts (case ∷ cases) = All (AreApart consts case) cases × AreDisjoint consts cases

-- no values make the guard true with its bounds out of order
abbrev pub IsInOrder : Environment → Case → Type 0
IsInOrder consts case = (s t : Term) → case.low ≡ Some s → case.high ≡ Some t → (functions : Functions) (xs : List ℚ) → IsTrue (all_true (with_arguments xs consts) functions case.guard)
    → value (with_arguments xs consts) functions s ≤ℚ value (with_arguments xs consts) functions t

-- ---- the completion
-- the clause is true at each point
abbrev pub PointsAreTrue : Frame → Word → (Word → Bool) → Universal → Type 0
PointsAreTrue frame func applied u = (k : Fact) → Contains (own_facts func frame.facts) k → IsTrueWithPoints frame (λ word. bytes_eq func word || applied word) u k.args

abbrev pub CasesComplete : Type 0
CasesComplete = (frame : Frame) (func : Word) (count : ℕ) (applied : Word → Bool) (cases : List Case) (clauses : List Universal) → count ≤ most_arguments
    → HaveArguments count (own_facts func frame.facts) → AreCongruent frame.facts → ((word : Word) → IsTrue (applied word) → bytes_eq func word ≡ false)
    → AreDisjoint frame.consts cases → All (IsInOrder frame.consts) cases → All (IsOfCase frame func count applied cases) clauses → All (PointsAreTrue frame func applied) clauses
    → Completes frame applied (case_group frame func count cases clauses)
