use Rattle.std.proofs.Common.{◌≡◌, ◌++◌, [], length, replicate}
use Rattle.hp_leaf.specs.declared.tree.Node.TheVariants.{Unopened}
use Rattle.hp_search.specs.Search.{later}
use Rattle.hp_search.proofs.places.leave.Given as goal

abbrev pub invariant-places : goal.invariant-places
invariant-places l = l.tree ++ replicate (length (later l.lines [] l.path)) Unopened ≡ l.initial.tree ++ replicate (length (later l.lines [] l.initial.path)) Unopened

abbrev pub decreases-places : goal.decreases-places
decreases-places l = length (later l.lines [] l.path)
