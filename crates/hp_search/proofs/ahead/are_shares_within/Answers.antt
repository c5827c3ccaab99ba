use Rattle.std.proofs.Common.{◌≤◌, pos}
use Rattle.std.proofs.lemmas.List.Elements.{All-more}
use Rattle.hp_lit.specs.declared.proof.Share.{Share}
use Rattle.hp_search.proofs.ahead.are_shares_within.Goals as goal

pub loop-share-preserved : goal.loop-share-preserved
loop-share-preserved c = All-more (λ (share : Share). share.lit ≤ c.args.count) c.args.shares.now c.loop-share.share-index (record { lit = 0; times = pos 0 }) c.loop-share-test.true c.loop-share.invariant c.if-share-count.false
