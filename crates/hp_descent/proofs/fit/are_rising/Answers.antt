use Rattle.hp_descent.proofs.Rising.{falls_here, rises_so_far}
use Rattle.hp_descent.proofs.fit.are_rising.Goals as goal

pub returns-then-parts-at : goal.returns-then-parts-at
returns-then-parts-at c = (λ e. cc, λ up. absurd (falls_here c.args.parts.now c.loop-at.at _ c.loop-at.auto.at c.loop-at-test.true c.if-parts-at.true up))

pub loop-at-preserved : goal.loop-at-preserved
loop-at-preserved c = rises_so_far c.args.parts.now c.loop-at.at _ c.loop-at.auto.at c.loop-at-test.true c.loop-at.invariant c.if-parts-at.false
