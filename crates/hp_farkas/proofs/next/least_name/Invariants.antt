use Rattle.std.proofs.Common.{◌≡◌, List, None, drop}
use Rattle.hp_lit.specs.Leaf.{Taken, AreTaken}
use Rattle.hp_farkas.specs.inner.Next.{least_name}
use Rattle.hp_farkas.proofs.next.least_name.Given as goal

abbrev pub invariant-loop-share : goal.invariant-loop-share
invariant-loop-share l = (taken : List Taken) → AreTaken l.path l.shares taken
    → (rest : List Taken) × AreTaken l.path (drop l.share-index l.shares) rest × (least_name l.from None taken ≡ least_name l.from l.best rest)
