-- Truth of a clause in a structure, and what it is that a structure satisfies a problem.
use Rattle.std.specs.List.{All}
use Rattle.hp_tree.specs.declared.problem.Clause.{Clause}
use Rattle.hp_tree.specs.declared.problem.Problem.{Problem}
use Rattle.hp_model.specs.declared.structure.Structure.{Structure}
use Rattle.hp_model.specs.WellFormed.{WellFormed}
use Rattle.hp_model.specs.Value.{constant, functions_of}
use Rattle.hp_tree.specs.Universal.{HoldsAll, universal}

-- at all values of the variables' sorts; every other name is a constant
abbrev pub Holds : Structure → Clause → Type 0
Holds s clause = HoldsAll s.universe (constant s.consts) (functions_of s) (universal clause)

pub record Satisfies (s : Structure) (p : Problem) : Type 0 where
  pub well_formed : WellFormed s p
  pub holds : All (Holds s) p.clauses
