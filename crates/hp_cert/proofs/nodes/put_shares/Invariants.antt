use Rattle.std.proofs.Common.{◌≡◌, take, ◌++◌}
use Rattle.std.specs.List.{flat_map}
use Rattle.hp_cert.specs.Trees.{share_text}
use Rattle.hp_cert.proofs.nodes.put_shares.Given as goal

abbrev pub invariant-loop-share : goal.invariant-loop-share
invariant-loop-share l = l.out ≡ l.fn.out ++ flat_map share_text (take l.share-index l.shares)
