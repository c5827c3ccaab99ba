use Rattle.std.proofs.Common.{◌≡◌, List, drop}
use Rattle.hp_lit.specs.Leaf.{Taken, AreTaken}
use Rattle.hp_farkas.specs.Check.{has_strict}
use Rattle.hp_farkas.proofs.check.has_strict.Given as goal

abbrev pub invariant-loop-share : goal.invariant-loop-share
invariant-loop-share l = (taken : List Taken) → AreTaken l.path l.shares taken
    → (rest : List Taken) × AreTaken l.path (drop l.share-index l.shares) rest × (has_strict taken ≡ has_strict rest)
