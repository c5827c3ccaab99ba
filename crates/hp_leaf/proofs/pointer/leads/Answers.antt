use Rattle.hp_leaf.proofs.Joins.{joins_none, joins_step}
use Rattle.hp_leaf.proofs.pointer.leads.Goals as goal

pub returns-in-None-clause-no : goal.returns-in-None-clause-no
returns-in-None-clause-no c = λ e h. joins_none c.args.path.now c.args.links.now c.loop-link.link-index _ c.loop-link.at c.args.to c.loop-link-test.true c.in-None.ensures.none (c.loop-link.invariant.0 h)

pub loop-link-preserved : goal.loop-link-preserved
loop-link-preserved c =
    let w = joins_step c.args.path.now c.args.links.now c.loop-link.link-index _ c.loop-link.at c.args.to c.in-Some.end.side c.loop-link-test.true c.in-Some.ensures.some in
    (λ h. w.0 (c.loop-link.invariant.0 h), λ h. c.loop-link.invariant.1 (w.1 h))
