use Rattle.std.proofs.Common.{sym, ◌∙◌}
use Rattle.hp_rows.proofs.Sums.{test_tells}
use Rattle.hp_rows.proofs.descent.is_broken.Goals as goal

pub returns : goal.returns
returns c =
    let h = rw c.as_slice.ensures at (sym c.left_side.ensures ∙ c.in_ok-sum.was) in
    test_tells c.args.row.now c.args.point.now c.in_ok-sum.sum c.is_over.result c.requires h c.is_over.ensures.yes c.is_over.ensures.no
