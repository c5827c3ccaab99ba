use Rattle.std.proofs.Common.{◌≡◌, Bool, true, false, not, refl}
use Rattle.std.proofs.lemmas.Option.{slice_get-get_or}
use Rattle.hp_ptreq.proofs.Points.{next_apart, next_together}
use Rattle.hp_ptreq.proofs.answer.first_clash.Goals as goal
use Rattle.hp_ptreq.proofs.answer.first_clash.Goals.{then-not-row+else-labels-left, else-not-row}

is_equality : (same : Bool) → not same ≡ false → same ≡ true
is_equality true e = refl
is_equality false e = absurd (cc)

pub loop-at-preserved : goal.loop-at-preserved
loop-at-preserved c =
    let row = slice_get-get_or c.args.rows.now c.loop-at.at _ c.loop-at-test.true in
    elim c.if-not-row.branch [
      | then-not-row+else-labels-left w ↦
          next_apart _ _ _ _ _ row c.loop-at.invariant (λ e. record {
            left = w.node_of-left.result;
            right = w.node_of-right.result;
            nodes = record {
              left_in = w.node_of-left.ensures.within;
              right_in = w.node_of-right.ensures.within;
              left_is = w.node_of-left.ensures.named;
              right_is = w.node_of-right.ensures.named;
            };
            stand = w.if-labels-left.false;
          })
      | else-not-row w ↦ next_together _ _ _ _ _ row (is_equality _ w.if-not-row.false) c.loop-at.invariant
    ]
