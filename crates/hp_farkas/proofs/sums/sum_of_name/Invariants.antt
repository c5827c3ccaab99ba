use Rattle.std.proofs.Common.{◌≡◌, List, pos, drop}
use Rattle.hp_lit.specs.Leaf.{Taken, AreTaken}
use Rattle.hp_farkas.specs.Sums.{sum_from}
use Rattle.hp_farkas.proofs.sums.sum_of_name.Given as goal

abbrev pub invariant-loop-share : goal.invariant-loop-share
invariant-loop-share l = (taken : List Taken) → AreTaken l.path l.shares taken
    → (rest : List Taken) × AreTaken l.path (drop l.share-index l.shares) rest × (sum_from l.name.0 (pos 0) taken ≡ sum_from l.name.0 l.total.sum rest)
