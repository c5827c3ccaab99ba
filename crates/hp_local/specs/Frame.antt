-- Points and tables over values alone: what a class of functions and the induction over levels speak of.
use Rattle.std.specs.Prelude.{◌≡◌, ℕ, List, [], ◌∷◌, Bool, true, false, ◌&&◌, if◌then◌else◌, IsTrue}
use Rattle.std.specs.Str.{bytes_eq}
use Rattle.std.specs.List.{Contains, list_any}
use Rattle.hp_math.specs.Rational.{ℚ, eq_ℚ}
use Rattle.hp_tree.specs.declared.problem.Var.{Var}
use Rattle.hp_tree.specs.Universal.{Universal, clause_at}
use Rattle.hp_tree.specs.Value.{Word, Environment, Functions}
use Rattle.hp_model.specs.declared.structure.Table.{Table}
use Rattle.hp_model.specs.Value.{rows_value, with_arguments}

-- ---- words
-- one of these functions
abbrev pub is_own : List Word → Word → Bool
is_own funcs word = list_any (λ func. bytes_eq func word) funcs

-- one of these variables
abbrev pub is_variable : List Var → Word → Bool
is_variable vars word = list_any (λ v. bytes_eq v.name word) vars

-- ---- a point of a function: at these arguments it has this value
pub record Fact : Type 0 where
  pub func : Word
  pub args : List ℚ
  pub value : ℚ

abbrev pub HasPoint : Functions → Fact → Type 0
HasPoint functions fact = functions fact.func fact.args ≡ fact.value

-- points of one function at equal arguments have equal values: what congruence lines say
abbrev pub AreCongruent : List Fact → Type 0
AreCongruent facts = (k l : Fact) → Contains facts k → Contains facts l → k.func ≡ l.func → k.args ≡ l.args → k.value ≡ l.value

abbrev pub same_values : List ℚ → List ℚ → Bool
same_values [] [] = true
same_values [] (y ∷ ys) = false
same_values (x ∷ xs) [] = false
same_values (x ∷ xs) (y ∷ ys) = eq_ℚ x y && same_values xs ys

-- the value of the first point that fits, else that of the functions below
abbrev pub with_points : Functions → List Fact → Functions
with_points lower [] func args = lower func args
with_points lower (k ∷ facts) func args = if bytes_eq k.func func && same_values args k.args then k.value else with_points lower facts func args

-- the functions through congruent points have each of them
abbrev pub PointsAreKept : Type 0
PointsAreKept = (lower : Functions) (facts : List Fact) → AreCongruent facts → (k : Fact) → Contains facts k → HasPoint (with_points lower facts) k

-- ---- tables over functions that stand below, where the constants have these values
abbrev pub with_tables : Environment → Functions → List Table → Functions
with_tables consts lower [] func args = lower func args
with_tables consts lower (table ∷ tables) func args =
    if bytes_eq table.func func then rows_value (with_arguments args consts) lower table.rows table.otherwise else with_tables consts lower tables func args

-- ---- a frame
-- the universe, the values of the names and of the constants, and the points, with those whose pointers are in the universe
pub record Frame : Type 0 where
  pub size : ℕ
  pub names : Environment
  pub consts : Environment
  pub facts : List Fact
  pub inside : Fact → Bool

-- the functions that are meant have their points inside the universe
abbrev pub HavePoints : Frame → (Word → Bool) → Functions → Type 0
HavePoints frame own functions = (k : Fact) → Contains frame.facts k → IsTrue (frame.inside k) → IsTrue (own k.func) → HasPoint functions k

-- true at these values in all functions that have the points of the functions that pass the test: what an instance says
abbrev pub IsTrueWithPoints : Frame → (Word → Bool) → Universal → List ℚ → Type 0
IsTrueWithPoints frame test u values =
    (functions : Functions) → ((k : Fact) → Contains frame.facts k → IsTrue (test k.func) → HasPoint functions k)
    → IsTrue (clause_at frame.names functions u values)
