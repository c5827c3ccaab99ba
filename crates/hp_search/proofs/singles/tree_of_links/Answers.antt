use Rattle.std.proofs.Common.{refl}
use Rattle.hp_search.specs.inner.Singles.{line_at}
use Rattle.hp_search.proofs.Closing.{more_links, splits_after}
use Rattle.hp_search.proofs.singles.tree_of_links.Goals as goal

pub loop-at-preserved : goal.loop-at-preserved
loop-at-preserved c = (
  splits_after (line_at c.args.singles.now) (line_at c.args.singles.now c.args.ne) c.args.links.now c.loop-at.tree _ c.loop-at.at _ c.line_of-in-loop-at.result c.loop-at-test.true c.line_of-in-loop-at.ensures c.in_ok-push-2.ensures.ok c.loop-at.invariant.0,
  more_links c.args.links.now c.loop-at.ordered _ c.loop-at.at _ c.loop-at-test.true refl c.in_ok-push-3.ensures.ok c.loop-at.invariant.1,
)
