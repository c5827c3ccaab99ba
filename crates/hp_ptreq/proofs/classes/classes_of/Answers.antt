use Rattle.std.proofs.lemmas.Option.{slice_get-get_or}
use Rattle.hp_ptreq.proofs.Joining.{first_classes, next_equality, next_inequality}
use Rattle.hp_ptreq.proofs.classes.classes_of.Goals as goal
use Rattle.hp_ptreq.proofs.classes.classes_of.Goals.{then-row+in_ok-unite, else-row}

pub loop-at-init : goal.loop-at-init
loop-at-init c = first_classes _ _ _ c.in_ok-classes.ensures

pub loop-at-preserved : goal.loop-at-preserved
loop-at-preserved c =
    let row = slice_get-get_or c.args.rows.now c.loop-at.at _ c.loop-at-test.true in
    elim c.if-row.branch [
      | then-row+in_ok-unite w ↦
          rw w.classes-is
          (next_equality _ _ _ _ _ _ _ row w.if-row.true w.join_of.ensures.nodes w.join_of.ensures.lit w.in_ok-unite.ensures c.loop-at.invariant)
      | else-row w ↦ rw w.classes-is (next_inequality _ _ _ _ _ row w.if-row.false c.loop-at.invariant)
    ]
