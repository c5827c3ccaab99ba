-- What a search found, as a verdict on the problem.
use Rattle.std.proofs.Common.{◌≡◌, List, subst, sym}
use Rattle.hp_tree.specs.declared.problem.Problem.{Problem}
use Rattle.hp_defs.specs.declared.names.Ground.{Ground}
use Rattle.hp_lit.specs.declared.valuation.Valuation.{Valuation}
use Rattle.hp_defs.specs.Names.{sorts}
use Rattle.hp_leaf.specs.declared.tree.Node.{Node}
use Rattle.hp_leaf.specs.Tree.{IsClosed, Place}
use Rattle.hp_leaf.proofs.Closing as closing
use Rattle.hp_model.specs.declared.structure.Structure.{Structure}
use Rattle.hp_model.specs.Satisfies.{Satisfies}
use Rattle.hp_search.specs.Search.{IsModelAt}
use Rattle.hp_chain.specs.Ground.{IsGroundOf}
use Rattle.hp_chain.specs.Structures.{structure_of}
use Rattle.hp_chain.proofs.StructuresGive.{structures_give_values}
use Rattle.hp_chain.proofs.ValuesGive.{values_give_a_structure}
use Rattle.hp_solve.specs.Solved.{IsInScope, IsSat}

pub sat_from : (p : Problem) (g : Ground) (place : Place) (v : Valuation) (s : Structure) (ground : IsGroundOf p g) → IsInScope p
    → IsModelAt (sorts g.names) g.lines place v → s ≡ structure_of ground.read.0 g.names v.values → IsSat p s
sat_from p g place v s ground scope model e = subst (IsSat p) (sym e) (record {
  scope = scope;
  satisfied = values_give_a_structure p g ground v.values (record { sorted = model.sorted; lines = model.all });
})

pub none_from : (p : Problem) (g : Ground) (tree : List Node) → IsGroundOf p g → IsClosed g.lines tree → (s : Structure) → Satisfies s p → ⊥
none_from p g tree ground closed s satisfied =
    let values = structures_give_values p g ground s satisfied in
    closing.closed_trees_refute g.lines tree closed values.0 values.1.lines
