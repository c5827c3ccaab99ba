use Rattle.std.proofs.Common.{◌∙◌}
use Rattle.hp_descent.proofs.Numbering.{small_chain}
use Rattle.hp_descent.proofs.Truth.{scale_apart, solves}
use Rattle.hp_descent.proofs.decision.values_at.Goals as goal

pub values-requires : goal.values-requires
values-requires c = scale_apart c.args.lits.now c.args.chain.now c.args.point.now c.requires.point

pub numbered-requires : goal.numbered-requires
numbered-requires c = small_chain c.args.lits.now c.args.chain.now c.requires.fit.few c.requires.point.point_of_chain.is_chain

pub returns-in_ok-named-in-Ok : goal.returns-in_ok-named-in-Ok
returns-in_ok-named-in-Ok c =
    let e = c.in_ok-named-in-Ok.ensures in
    solves c.args.lits.now c.args.chain.now c.args.point.now c.in-Ok.values c.in_ok-named-in-Ok.field-0 c.requires.point (rw c.in-Ok.is at c.values.ensures.exact)
    (rw c.in-Ok.is at c.values.ensures.told) (e.names ∙ c.requires.columns) (e.values ∙ c.as_slice.ensures)
