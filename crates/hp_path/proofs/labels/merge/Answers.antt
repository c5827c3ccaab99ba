use Rattle.std.proofs.Common.{◌<◌, sym, ◌∙◌, ap, length, subst}
use Rattle.hp_path.specs.Components.{merged}
use Rattle.hp_path.proofs.Merging.{label_kept, label_set, merged_gone, merged_other}
use Rattle.hp_path.proofs.labels.merge.Goals as goal
use Rattle.hp_path.proofs.labels.merge.Goals.{then-get-gone, else-get-gone}

pub loop-at-preserved : goal.loop-at-preserved
loop-at-preserved c =
    let f = merged c.args.kept c.args.gone in
    let l : c.loop-at.at < length c.args.labels.now = subst (λ n. c.loop-at.at < n) c.len-at-end.ensures c.loop-at-test.true in
    elim c.if-get-gone.branch [
      | then-get-gone w ↦
          w.labels-is ∙ w.set.ensures
          ∙ label_set f c.args.labels.now c.loop-at.labels c.loop-at.at c.get.result.now l c.loop-at.invariant c.get.ensures c.args.kept (sym (ap f w.if-get-gone.true ∙ merged_gone c.args.kept c.args.gone))
      | else-get-gone w ↦
          w.labels-is
          ∙ label_kept f c.args.labels.now c.loop-at.labels c.loop-at.at c.get.result.now l c.loop-at.invariant c.get.ensures (merged_other c.args.kept c.args.gone c.get.result.now w.if-get-gone.false)
    ]
