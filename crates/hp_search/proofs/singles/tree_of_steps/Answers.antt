use Rattle.std.proofs.Common.{refl}
use Rattle.hp_search.specs.inner.Singles.{line_at}
use Rattle.hp_search.proofs.Closing.{more_splits, more_steps}
use Rattle.hp_search.proofs.singles.tree_of_steps.Goals as goal

pub loop-at-preserved : goal.loop-at-preserved
loop-at-preserved c = (
  more_splits (λ s. line_at c.args.singles.now s.lit) c.args.steps.now c.loop-at.tree _ c.loop-at.at _ c.line_of.result c.loop-at-test.true c.line_of.ensures c.in_ok-push.ensures.ok c.loop-at.invariant.0,
  more_steps c.args.steps.now c.loop-at.ordered _ c.loop-at.at _ _ c.loop-at-test.true refl c.in_ok-push-2.ensures.ok c.loop-at.invariant.1,
)
