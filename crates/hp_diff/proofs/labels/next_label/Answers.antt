use Rattle.std.proofs.Common.{rules, ◌<◌}
use Rattle.hp_diff.proofs.Limits.{sum_fits_bits, edge_small, label_small}
use Rattle.hp_diff.proofs.labels.next_label.Goals as goal

pub lowered-requires : goal.lowered-requires
lowered-requires c =
    let fits = c.requires.edges.each _ c.requires.at in
    let start = label_small _ _ _ _ c.requires.labels c.requires.latest c.requires.shallow fits.from in
    let bound = edge_small _ _ fits in
    rw c.latest_label-start.ensures (sum_fits_bits _ _ start.0 start.1 bound.0 bound.1)

pub overflow_add-result : goal.overflow_add-result
overflow_add-result c =
    let fits = c.requires.edges.each _ c.requires.at in
    let deep : c.latest_label-start.result.depth < c.args.nodes = rw c.latest_label-start.ensures (c.requires.shallow.each _ (c.requires.latest.within _ fits.from)) in
    search (rules, deep)
