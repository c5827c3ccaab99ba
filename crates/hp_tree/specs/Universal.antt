-- Universal clauses: for all values of the variables, a guard atom is false or a head atom is true.
use Rattle.std.specs.Prelude.{ℕ, List, [], ◌∷◌, Bool, ◌||◌, not, if◌then◌else◌, IsTrue}
use Rattle.std.specs.Str.{bytes_eq}
use Rattle.hp_math.specs.Rational.{ℚ}
use Rattle.hp_tree.specs.declared.problem.Var.{Var}
use Rattle.hp_tree.specs.declared.problem.Atom.{Atom}
use Rattle.hp_tree.specs.declared.problem.Clause.{Clause}
use Rattle.hp_tree.specs.Sorted.{is_of_sort}
use Rattle.hp_tree.specs.Value.{Environment, Functions, all_true, one_true}

pub record Universal : Type 0 where
  pub vars : List Var
  pub guard : List Atom
  pub head : List Atom

-- what a clause of a problem says
abbrev pub universal : Clause → Universal
universal clause = record { vars = clause.vars; guard = clause.guard; head = clause.head }

-- the variables have the values of the list, in their order, and every other name keeps its value
abbrev pub assign : List Var → List ℚ → Environment → Environment
assign [] values env name = env name
assign (v ∷ vars) [] env name = env name
assign (v ∷ vars) (x ∷ values) env name = if bytes_eq v.name name then x else assign vars values env name

-- a guard atom is false, or a head atom is true
abbrev pub clause_at : Environment → Functions → Universal → List ℚ → Bool
clause_at env functions u values = not (all_true (assign u.vars values env) functions u.guard) || one_true (assign u.vars values env) functions u.head

-- a value for each variable, of its sort, in a universe of so many pointers
abbrev pub AreSorted : ℕ → List Var → List ℚ → Type 0
AreSorted size [] [] = Unit {0}
AreSorted size (v ∷ vars) (x ∷ values) = IsTrue (is_of_sort size v.sort x) × AreSorted size vars values
AreSorted size _ _ = ⊥

-- at all values of the variables' sorts
abbrev pub HoldsAll : ℕ → Environment → Functions → Universal → Type 0
HoldsAll size env functions u = (values : List ℚ) → AreSorted size u.vars values → IsTrue (clause_at env functions u values)
