use Rattle.std.proofs.Common.{◌≡◌, take}
use Rattle.hp_leaf.specs.Renumbered.{renumbered_shares}
use Rattle.hp_leaf.proofs.renumbering.renumber_shares.Given as goal

abbrev pub invariant-loop-share : goal.invariant-loop-share
invariant-loop-share l = l.renumbered ≡ renumbered_shares l.places (take l.share-index l.shares)
