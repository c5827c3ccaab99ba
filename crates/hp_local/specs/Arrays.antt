-- The completion of arrays: each index goes to the nearest one of the index set.
use Rattle.std.specs.Prelude.{◌≡◌, List, [], ◌∷◌, map, Bool, true, false, ◌&&◌, ◌||◌, not, IsTrue}
use Rattle.std.specs.List.{list_all, All, Contains}
use Rattle.hp_math.specs.Rational.{ℚ}
use Rattle.hp_tree.specs.declared.term.Term.{Term, fold-Term}
use Rattle.hp_tree.specs.declared.term.Term.TheOpen.{Term-F}
use Rattle.hp_tree.specs.declared.problem.Atom.{Atom}
use Rattle.hp_tree.specs.declared.problem.Var.{Var}
use Rattle.hp_tree.specs.Universal.{Universal, AreSorted, assign}
use Rattle.hp_tree.specs.Value.{Word, Functions, atom_is_true}
use Rattle.hp_model.specs.declared.structure.Table.{Table}
use Rattle.hp_local.specs.Frame.{is_own, is_variable, Fact, AreCongruent, Frame, IsTrueWithPoints}
use Rattle.hp_local.specs.Law.{Group, Completes}
use Rattle.hp_local.specs.Nearest.{nearest}
use Rattle.hp_local.specs.Ordered.{HasAt, first_argument, fact_points, in_order, step_table}
use Rattle.hp_local.specs.Rows.{own_facts, HaveArguments}

-- ---- the group
abbrev pub step_tables : List Fact → List Word → List Table
step_tables facts funcs = map (λ func. step_table func (in_order (fact_points (own_facts func facts)))) funcs

abbrev pub array_group : Frame → List Word → List Universal → Group
array_group frame funcs clauses = record { own = is_own funcs; clauses = clauses; tables = step_tables frame.facts funcs }

-- ---- terms whose variables are arguments of arrays alone
-- whether a term is a variable, and whether each variable in it is the argument of an array
pub record Look : Type 0 where
  pub variable : Bool
  pub fine : Bool

abbrev pub one_variable : List Look → Bool
one_variable [] = false
one_variable (a ∷ []) = a.variable
one_variable (a ∷ b ∷ args) = false

abbrev pub look_step : (Word → Bool) → (Word → Bool) → Term-F Look → Look
look_step own variable (Term-F.Number n) = record { variable = false; fine = true }
look_step own variable Term-F.Null = record { variable = false; fine = true }
look_step own variable (Term-F.Name name) = record { variable = variable name; fine = not (variable name) }
look_step own variable (Term-F.Apply func args) = record { variable = false; fine = (own func && one_variable args) || list_all (λ a. a.fine) args }
look_step own variable (Term-F.Add a b) = record { variable = false; fine = a.fine && b.fine }
look_step own variable (Term-F.Sub a b) = record { variable = false; fine = a.fine && b.fine }
look_step own variable (Term-F.Neg a) = record { variable = false; fine = a.fine }
look_step own variable (Term-F.Scale n a) = record { variable = false; fine = a.fine }

abbrev pub look : (Word → Bool) → (Word → Bool) → Term → Look
look own variable = fold-Term Look (look_step own variable)

abbrev pub atom_is_fine : (Word → Bool) → (Word → Bool) → Atom → Bool
atom_is_fine own variable atom = (look own variable atom.left).fine && (look own variable atom.right).fine

-- ---- clauses
abbrev pub IsFine : List Word → Universal → Atom → Type 0
IsFine funcs u atom = IsTrue (atom_is_fine (is_own funcs) (is_variable u.vars) atom)

-- an atom that stays true where each index goes to the nearest one
abbrev pub KeepsTruth : List ℚ → Frame → Universal → Atom → Type 0
KeepsTruth indexes frame u atom = (functions : Functions) (xs : List ℚ) → AreSorted frame.size u.vars xs
    → IsTrue (atom_is_true (assign u.vars xs frame.names) functions atom)
    → IsTrue (atom_is_true (assign u.vars (map (nearest indexes) xs) frame.names) functions atom)

pub data IsArrayGuard (indexes : List ℚ) (frame : Frame) (funcs : List Word) (u : Universal) (atom : Atom) : Type 0 where
  Fine : IsFine funcs u atom → IsArrayGuard indexes frame funcs u atom
  Keeps : KeepsTruth indexes frame u atom → IsArrayGuard indexes frame funcs u atom

pub record IsArrayClause (indexes : List ℚ) (frame : Frame) (funcs : List Word) (u : Universal) : Type 0 where
  pub guard : All (IsArrayGuard indexes frame funcs u) u.guard
  pub head : All (IsFine funcs u) u.head

-- a value of the index set for each variable
abbrev pub AreAmong : List ℚ → List Var → List ℚ → Type 0
AreAmong indexes [] [] = Unit {0}
AreAmong indexes [] (x ∷ xs) = ⊥
AreAmong indexes (v ∷ vars) [] = ⊥
AreAmong indexes (v ∷ vars) (x ∷ xs) = Contains indexes x × AreAmong indexes vars xs

abbrev pub TuplesAreTrue : List ℚ → Frame → (Word → Bool) → Universal → Type 0
TuplesAreTrue indexes frame test u = (xs : List ℚ) → AreAmong indexes u.vars xs → IsTrueWithPoints frame test u xs

-- ---- the completion
-- a function of one argument with a point at each index of the set, and no other point
pub record IsArray (frame : Frame) (indexes : List ℚ) (func : Word) : Type 0 where
  pub arguments : HaveArguments 1 (own_facts func frame.facts)
  pub at_each : (x : ℚ) → Contains indexes x → HasAt (fact_points (own_facts func frame.facts)) x
  pub at_no_other : (k : Fact) → Contains (own_facts func frame.facts) k → Contains indexes (first_argument k.args)

abbrev pub ArraysComplete : Type 0
ArraysComplete = (frame : Frame) (funcs : List Word) (applied : Word → Bool) (i : ℚ) (is : List ℚ) (clauses : List Universal) → AreCongruent frame.facts
    → All (IsArray frame (i ∷ is)) funcs → ((word : Word) → IsTrue (applied word) → is_own funcs word ≡ false)
    → All (IsArrayClause (i ∷ is) frame funcs) clauses → All (TuplesAreTrue (i ∷ is) frame (λ word. is_own funcs word || applied word)) clauses
    → Completes frame applied (array_group frame funcs clauses)
