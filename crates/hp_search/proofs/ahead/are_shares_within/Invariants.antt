use Rattle.std.proofs.Common.{◌≤◌, take}
use Rattle.std.specs.List.{All}
use Rattle.hp_lit.specs.declared.proof.Share.{Share}
use Rattle.hp_search.proofs.ahead.are_shares_within.Given as goal

abbrev pub invariant-loop-share : goal.invariant-loop-share
invariant-loop-share l = All (λ (share : Share). share.lit ≤ l.count) (take l.share-index l.shares)
