use Rattle.std.proofs.Common.{◌≡◌, take}
use Rattle.hp_leaf.specs.Renumbered.{renumbered_links}
use Rattle.hp_leaf.proofs.renumbering.renumber_links.Given as goal

abbrev pub invariant-loop-link : goal.invariant-loop-link
invariant-loop-link l = l.renumbered ≡ renumbered_links l.places (take l.link-index l.links)
