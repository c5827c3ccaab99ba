-- What the calls answer.
use Rattle.std.specs.Prelude.{◌≡◌, Result, Ok, Err}
use Rattle.hp_tree.specs.declared.problem.Problem.{Problem}
use Rattle.hp_lit.specs.declared.refusal.GroundErr.{GroundErr}
use Rattle.hp_lit.specs.declared.refusal.GroundErr.TheVariants as ground
use Rattle.hp_defs.specs.declared.names.Ground.{Ground}
use Rattle.hp_groups.specs.Groups.{Reading}
use Rattle.hp_chain.specs.declared.answer.ChainErr.{ChainErr}
use Rattle.hp_chain.specs.declared.answer.ChainErr.TheVariants as refusal
use Rattle.hp_chain.specs.declared.chain.Chain.{Chain}
use Rattle.hp_chain.specs.declared.chain.Classified.{Classified}
use Rattle.hp_chain.specs.Ground.{IsGroundOf, IsLimited, IsOutside, IsReadAs, IsStrained, chain_of}

-- the groups of a problem in the order of their turns, over the ground set of its clauses without variables
pub record IsChainOf (p : Problem) (chain : Chain) (base : Ground) : Type 0 where
  pub read : Reading
  pub taken : IsReadAs p (read, base)
  pub groups : chain.groups ≡ chain_of p (read, base)

-- the chain that the problem has, or why it has none
abbrev pub ClassifiedAs : Problem → Result Classified ChainErr → Type 0
ClassifiedAs p (Ok made) = IsChainOf p made.chain made.ground
ClassifiedAs p (Err (refusal.Outside o)) = IsOutside p o
ClassifiedAs p (Err (refusal.Limit l)) = IsLimited p l
ClassifiedAs p (Err (refusal.Strain s)) = IsStrained p s
ClassifiedAs p (Err refusal.Memory) = Unit {0}

-- the groups of a problem, and the ground set that they have made
pub record HasChain (p : Problem) (chain : Chain) (g : Ground) : Type 0 where
  pub ground : IsGroundOf p g
  pub groups : chain.groups ≡ chain_of p ground.read

-- the ground set that the problem has, or the limit that its groups pass first
abbrev pub DescendedAs : Problem → Chain → Result Ground GroundErr → Type 0
DescendedAs p chain (Ok g) = HasChain p chain g
DescendedAs p chain (Err (ground.Limit l)) = IsLimited p l
DescendedAs p chain (Err ground.Memory) = Unit {0}
