-- The ground set of a problem, as groups that are apart have made it from the lines of clauses without variables.
use Rattle.hp_tree.specs.declared.problem.Problem.{Problem}
use Rattle.hp_defs.specs.declared.names.Ground.{Ground}
use Rattle.hp_norm.specs.Flat.{IsFlattened}
use Rattle.hp_class.specs.Groups.{HaveDescended}
use Rattle.hp_groups.specs.contracts.group.GroupLocalClass.TheImpl.{ghosts}
use Rattle.hp_chain.specs.Ground.{IsGroundOf, chain_of}
use Rattle.hp_chain.specs.Order.{function_order}
use Rattle.hp_chain.proofs.Chained.{chain_lent, is_flattened}
use Rattle.hp_chain.proofs.ValuesTurns.{order_once}
use Rattle.hp_groups.proofs.Classes.{groups_are_a_class}
use Rattle.hp_groups.proofs.Apart.{groups_apart}

module _ (p : Problem) (g : Ground) (is : IsGroundOf p g) where
  pub flattened : IsFlattened p is.read.0.flats is.read.1
  flattened = is_flattened p is.read.0.flats is.read.1 is.able is.limits is.taken.named

  pub descended : HaveDescended ghosts.grow_of ghosts.own ghosts.applied ghosts.clauses ghosts.plan_of ghosts.IsLent (chain_of p is.read) is.read.1 g
  descended = record {
    law = groups_are_a_class;
    sound = flattened.sound;
    lent = chain_lent p is.read is.able is.limits is.taken is.plain;
    apart = groups_apart is.read.0 is.read.1.names.signatures (function_order p.decls) (order_once p.decls);
    made = is.made;
  }
