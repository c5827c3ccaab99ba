-- What ties the ground set of a problem to the structures of the problem.
use Rattle.std.specs.Prelude.{◌≤◌, length}
use Rattle.std.specs.List.{All}
use Rattle.hp_tree.specs.Limits.{most_lines}
use Rattle.hp_tree.specs.declared.problem.Problem.{Problem}
use Rattle.hp_lit.specs.Sorts.{AreOfSorts}
use Rattle.hp_lit.specs.Truth.{Values, LineIsTrue}
use Rattle.hp_defs.specs.declared.names.Ground.{Ground}
use Rattle.hp_defs.specs.Fit.{IsFitNames}
use Rattle.hp_defs.specs.Names.{sorts}
use Rattle.hp_model.specs.declared.structure.Structure.{Structure}
use Rattle.hp_model.specs.Satisfies.{Satisfies}
use Rattle.hp_norm.specs.Laws.{IsFitLine}
use Rattle.hp_chain.specs.Ground.{IsGroundOf}
use Rattle.hp_chain.specs.Structures.{structure_of}

-- values of the names' sorts at which every line is true
pub record AreTrueLines (g : Ground) (v : Values) : Type 0 where
  pub sorted : AreOfSorts (sorts g.names) v
  pub lines : All (λ line. LineIsTrue v line.lits) g.lines

-- every literal can be decided, definitions fit the names before them, and there are few lines
pub record IsFitGround (g : Ground) : Type 0 where
  pub names : IsFitNames g.names
  pub lines : All (IsFitLine g.names) g.lines
  pub few : length g.lines ≤ most_lines

abbrev pub GroundSetsAreFit : Type 0
GroundSetsAreFit = (p : Problem) (g : Ground) → IsGroundOf p g → IsFitGround g

-- every structure that satisfies the problem gives such values
abbrev pub StructuresGiveValues : Type 0
StructuresGiveValues = (p : Problem) (g : Ground) → IsGroundOf p g → (structure : Structure) → Satisfies structure p → (v : Values) × AreTrueLines g v

-- such values give a structure that satisfies the problem
abbrev pub ValuesGiveAStructure : Type 0
ValuesGiveAStructure = (p : Problem) (g : Ground) (is : IsGroundOf p g) (v : Values) → AreTrueLines g v → Satisfies (structure_of is.read.0 g.names v) p
