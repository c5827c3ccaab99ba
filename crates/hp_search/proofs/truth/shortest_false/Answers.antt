use Rattle.std.proofs.Common.{◌≤◌, arith, length, refl, subst, sym}
use Rattle.hp_search.specs.Lines.{Judges, JudgesLine}
use Rattle.hp_search.proofs.Judging.{best_found, best_skipped, best_true, judges, sum_found}
use Rattle.hp_search.proofs.truth.shortest_false.Goals as goal
use Rattle.hp_search.proofs.truth.shortest_false.Goals.{then-is_shorter+in_ok-line_truth+in-True, then-is_shorter+in_ok-line_truth+in-False, then-is_shorter+in_ok-line_truth+in-Wide, else-is_shorter}

pub loop-at-preserved : goal.loop-at-preserved
loop-at-preserved c =
    let lines = c.args.lines.now in
    let line = c.index-lines-at.result in
    let is = c.index-lines-at.is in
    let v = c.args.v.now.values in
    elim c.if-is_shorter.branch [
      | then-is_shorter+in_ok-line_truth+in-True w ↦ best_true lines lines v c.loop-at.at line refl c.loop-at-test.true is _ _ c.loop-at.invariant
          c.if-is_shorter.best c.if-is_shorter.wide_sum w.best-is w.wide_sum-is (subst (JudgesLine v line.lits) w.in-True.is w.in_ok-line_truth.ensures)
      | then-is_shorter+in_ok-line_truth+in-False w ↦ best_found lines lines v c.loop-at.at line refl c.loop-at-test.true is _ _ c.loop-at.invariant
          _ _ c.if-is_shorter.best c.if-is_shorter.wide_sum refl w.best-is w.wide_sum-is (subst (JudgesLine v line.lits) w.in-False.is w.in_ok-line_truth.ensures)
      | then-is_shorter+in_ok-line_truth+in-Wide w ↦ sum_found lines lines v c.loop-at.at line refl c.loop-at-test.true is _ _ c.loop-at.invariant
          _ _ _ c.if-is_shorter.best c.if-is_shorter.wide_sum refl w.best-is w.wide_sum-is (subst (JudgesLine v line.lits) w.in-Wide.is w.in_ok-line_truth.ensures)
      | else-is_shorter w ↦ best_skipped lines lines v c.loop-at.at line refl c.loop-at-test.true is _ _ c.loop-at.invariant
          c.if-is_shorter.best c.if-is_shorter.wide_sum w.best-is w.wide_sum-is (c.is_shorter.ensures w.if-is_shorter.false)
    ]

pub returns : goal.returns
returns c =
    let end : length c.args.lines.now ≤ c.loop-at.at = omega arith in
    subst (Judges c.args.lines.now c.args.v.now.values) (sym c.verdict_of.ensures)
    (judges c.args.lines.now c.args.v.now.values c.loop-at.at c.loop-at.best c.loop-at.wide_sum end c.loop-at.invariant)
