use Rattle.std.proofs.Common.{rules, ◌-◌, ◌<◌, ◌≤◌, arith, length}
use Rattle.hp_rows.proofs.Exact.{are_quotients, values_end}
use Rattle.hp_rows.proofs.coordinates.values.Goals as goal

pub returns-clause-exact : goal.returns-clause-exact
returns-clause-exact c =
    let l : length c.args.point.now - 1 < length c.args.point.now = search rules in
    let m : length c.args.point.now - 1 ≤ length c.args.point.now = omega arith in
    let e : length c.args.point.now - 1 ≤ c.loop-at.at = search rules in
    let h = values_end (length c.args.point.now - 1) c.loop-at.at c.args.point.now c.loop-at.out m e c.loop-at.invariant.so_far in
    are_quotients (length c.args.point.now - 1) c.args.point.now c.loop-at.out l c.requires h
