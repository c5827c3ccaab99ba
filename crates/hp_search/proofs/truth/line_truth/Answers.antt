use Rattle.hp_search.proofs.Judging.{false_more, line_some, wide_more}
use Rattle.hp_search.proofs.truth.line_truth.Goals as goal
use Rattle.hp_search.proofs.truth.line_truth.Goals.{in-False, in-Wide+in_ok-lit-in-Wide}

pub returns-in-True : goal.returns-in-True
returns-in-True c = line_some c.args.v.now.values c.args.line.now.lits c.as_slice-lit-items.result.now c.loop-at.at c.lit-item.result c.as_slice-lit-items.ensures c.loop-at-test.true c.lit-item.is c.in-True.ensures

pub loop-at-preserved : goal.loop-at-preserved
loop-at-preserved c = elim c.match-lit_truth.branch [
  | in-False w ↦ false_more c.args.v.now.values c.args.line.now.lits c.as_slice-lit-items.result.now c.loop-at.at c.lit-item.result c.loop-at.truth c.match-lit_truth.truth
      c.as_slice-lit-items.ensures c.loop-at-test.true c.lit-item.is w.in-False.ensures w.truth-is c.loop-at.invariant
  | in-Wide+in_ok-lit-in-Wide w ↦ wide_more c.args.v.now.values c.args.line.now.lits c.as_slice-lit-items.result.now c.loop-at.at w.in_ok-lit-in-Wide.lit c.lit-item.result w.in-Wide.wide c.match-lit_truth.truth
      c.as_slice-lit-items.ensures c.loop-at-test.true c.lit-item.is w.in-Wide.ensures w.in_ok-lit-in-Wide.ensures w.truth-is
]
