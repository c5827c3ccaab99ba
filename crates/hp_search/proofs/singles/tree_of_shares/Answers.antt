use Rattle.std.proofs.Common.{◌≡◌, ◌+◌, ap, arith, get_or, pos, sym, to_z, of_z}
use Rattle.std.specs.Int.{w128}
use Rattle.std.proofs.lemmas.Int.{ints}
use Rattle.hp_lit.specs.declared.proof.Share.{Share}
use Rattle.hp_search.specs.inner.Singles.{line_at}
use Rattle.hp_search.proofs.Closing.{more_splits, more_shares}
use Rattle.hp_search.proofs.singles.tree_of_shares.Goals as goal

abbrev no_share : Share
no_share = record { lit = 0; times = pos 0 }

pub loop-at-preserved : goal.loop-at-preserved
loop-at-preserved c =
    let share : Share = get_or c.args.shares.now c.loop-at.at no_share in
    let same : share.times ≡ to_z w128 (of_z w128 share.times) = omega (arith, ints) in (
      more_splits (λ s. line_at c.args.singles.now s.lit) c.args.shares.now c.loop-at.tree _ c.loop-at.at _ c.line_of.result c.loop-at-test.true c.line_of.ensures c.in_ok-push.ensures.ok c.loop-at.invariant.0,
      more_shares c.args.shares.now c.loop-at.ordered _ c.loop-at.at no_share (record { lit = c.loop-at.at + 1; times = to_z w128 (of_z w128 share.times) }) c.loop-at-test.true (ap (λ z. record { lit = c.loop-at.at + 1; times = z }) (sym same)) c.in_ok-push-2.ensures.ok c.loop-at.invariant.1,
    )
