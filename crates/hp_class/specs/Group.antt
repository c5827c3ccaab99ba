-- What a group of functions makes: its definitions, its clauses at tuples of arguments, and the lines of its applications.
use Rattle.std.specs.Prelude.{ℕ, List}
use Rattle.std.specs.List.{All, Contains}
use Rattle.hp_defs.specs.Names.{NameList}
use Rattle.hp_base.specs.Making.{Maker, ◌then◌, in_turn}
use Rattle.hp_norm.specs.declared.flat.FlatClause.{FlatClause}
use Rattle.hp_instance.specs.declared.tuple.Tuple.{Tuple}
use Rattle.hp_norm.specs.Flat.{IsFlat}
use Rattle.hp_instance.specs.Instances.{instance}
use Rattle.hp_instance.specs.Laws.{TupleFits}
use Rattle.hp_class.specs.Points.{function_lines}

-- a clause, and the tuples at which it has an instance
pub record Planned : Type 0 where
  pub clause : FlatClause
  pub tuples : List Tuple

abbrev pub planned_lines : Planned → Maker (Unit {0})
planned_lines p = in_turn (instance p.clause) p.tuples

-- the instances of a plan, clause by clause
abbrev pub plan_lines : List Planned → Maker (Unit {0})
plan_lines plan = in_turn planned_lines plan

-- those of a plan over the names that are there, and then the lines of each own function
abbrev pub group_lines : List ℕ → (NameList → List Planned) → Maker (Unit {0})
group_lines own plan g = plan_lines (plan g.names) g then λ done. in_turn function_lines own

-- the definitions that a group needs, and then its lines
abbrev pub group_step : Maker (Unit {0}) → List ℕ → (NameList → List Planned) → Maker (Unit {0})
group_step grow own plan g = grow g then λ done. group_lines own plan

-- the same of a group of any class, by what the class says of it
abbrev pub class_step : {C : Type 0} → (C → Maker (Unit {0})) → (C → List ℕ) → (C → NameList → List Planned) → C → Maker (Unit {0})
class_step grow own plan c = group_step (grow c) (own c) (plan c)

-- ---- plans over these names
-- a flat clause of the group, with an argument of its sort for each variable
pub record PlannedFits (names : NameList) (clauses : List FlatClause) (p : Planned) : Type 0 where
  pub among : Contains clauses p.clause
  pub flat : IsFlat names p.clause
  pub tuples : All (λ t. TupleFits names p.clause t.args) p.tuples

abbrev pub PlanFits : NameList → List FlatClause → List Planned → Type 0
PlanFits names clauses plan = All (PlannedFits names clauses) plan
