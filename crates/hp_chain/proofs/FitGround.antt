-- The ground set of a problem can be decided, and has few lines.
use Rattle.hp_class.proofs.GroupsMade.{groups_are_sound}
use Rattle.hp_groups.specs.declared.group.Group.{Group}
use Rattle.hp_groups.specs.contracts.group.GroupLocalClass.TheImpl.{ghosts}
use Rattle.hp_chain.specs.Ground.{chain_of}
use Rattle.hp_chain.specs.Laws.{GroundSetsAreFit}
use Rattle.hp_chain.proofs.FitLines.{flat_of_few}
use Rattle.hp_chain.proofs.ValuesDescended.{descended}

pub ground_sets_are_fit : GroundSetsAreFit
ground_sets_are_fit p g is =
    let made = groups_are_sound Group ghosts.grow_of ghosts.own ghosts.applied ghosts.clauses ghosts.plan_of ghosts.IsLent (chain_of p is.read) is.read.1 g (descended p g is) in
    record { names = made.sound.names; lines = made.sound.lines; few = made.few (flat_of_few p is.read.0.flats is.read.1 is.taken.named) }
