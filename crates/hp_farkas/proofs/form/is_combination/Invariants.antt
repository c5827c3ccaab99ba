use Rattle.std.proofs.Common.{drop}
use Rattle.hp_farkas.specs.Form.{IsCombination}
use Rattle.hp_farkas.proofs.Rising.{IsCombinationAbove}
use Rattle.hp_farkas.proofs.form.is_combination.Given as goal

abbrev pub invariant-loop-share : goal.invariant-loop-share
invariant-loop-share l =
    (IsCombination l.path l.shares → IsCombinationAbove l.path l.last (drop l.share-index l.shares))
    × (IsCombinationAbove l.path l.last (drop l.share-index l.shares) → IsCombination l.path l.shares)
