use Rattle.std.proofs.Common.{FitsSigned, arith}
use Rattle.std.specs.Int.{w128}
use Rattle.std.proofs.lemmas.Int.{ints, to_z-of_z}
use Rattle.hp_diff.specs.inner.Labels.{edge_at}
use Rattle.hp_diff.specs.inner.Settled.{value_at}
use Rattle.hp_diff.proofs.Limits.{sum_fits, edge_small}
use Rattle.hp_diff.proofs.Lowering.{lowers}
use Rattle.hp_diff.proofs.repair.relax.Goals as goal

pub returns-in-Some-enqueue : goal.returns-in-Some-enqueue
returns-in-Some-enqueue c =
    let lower = rw c.as_slice.ensures at c.in-Some.ensures.lower in
    let e = edge_at c.args.edges.now c.args.at in
    let draft = c.args.work.now.draft in
    let edge_fits = c.requires.fit.each _ c.requires.at in
    let bound = edge_small _ _ edge_fits in
    let start_low = c.requires.work.draft.low e.from edge_fits.from in
    let start_high = c.requires.work.draft.high e.from edge_fits.from in
    let fits : FitsSigned w128 c.in-Some.value = rw lower.is (sum_fits (value_at draft e.from) e.bound start_low (omega (arith, ints)) bound.0 bound.1) in
    let low = rw (to_z-of_z w128 c.in-Some.value fits) at (c.is_low.ensures c.if-is_low.false) in
    rw (c.set.ensures, c.set-in-Some-enqueue.ensures, to_z-of_z w128 c.in-Some.value fits)
    (lowers c.args.nodes c.args.edges.now c.args.work.now c.enqueue.new.work c.args.head c.args.tail c.in-Some-enqueue.more c.args.at c.in-Some.value c.requires.fit c.requires.at c.requires.work lower.is lower.less low c.in-Some-enqueue.ensures.queued)
