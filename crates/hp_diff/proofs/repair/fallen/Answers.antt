use Rattle.std.proofs.Common.{arith}
use Rattle.std.proofs.lemmas.Int.{ints}
use Rattle.hp_diff.specs.inner.Labels.{edge_at}
use Rattle.hp_diff.specs.inner.Settled.{value_at}
use Rattle.hp_diff.proofs.Limits.{sum_fits_bits, edge_small}
use Rattle.hp_diff.proofs.repair.fallen.Goals as goal

pub lowered-requires : goal.lowered-requires
lowered-requires c =
    let e = edge_at c.args.edges.now c.args.at in
    let fits = c.requires.fit.each _ c.requires.at in
    let bound = edge_small _ _ fits in
    let low = c.requires.draft.low e.from fits.from in
    let high = c.requires.draft.high e.from fits.from in
    sum_fits_bits (value_at c.args.draft.now e.from) e.bound low (omega (arith, ints)) bound.0 bound.1
