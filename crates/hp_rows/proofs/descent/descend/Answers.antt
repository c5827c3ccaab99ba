use Rattle.std.proofs.Common.{length, reverse}
use Rattle.hp_rows.proofs.Moves.{begins}
use Rattle.hp_rows.proofs.Steps.{left_falls}
use Rattle.hp_rows.proofs.descent.descend.Goals as goal

pub loop-state-init : goal.loop-state-init
loop-state-init c =
    let h = rw c.in-Ok.is at c.point_of.ensures in
    rw (c.new.ensures, c.new-2.ensures, c.new-3.ensures) (begins c.args.rows.now c.args.width c.requires c.in-Ok.point h)

pub loop-state-smaller : goal.loop-state-smaller
loop-state-smaller c =
    let h = rw c.in-On.is at c.advance.ensures in
    left_falls (length c.args.rows.now) (reverse c.loop-state.state.chain) (reverse c.advance.new.state.chain) c.loop-state.state.at c.advance.new.state.at h.state.under h.rises
