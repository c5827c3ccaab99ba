use Rattle.std.proofs.lemmas.List.{get_or_read}
use Rattle.std.proofs.Common.{[], ◌≡◌, get_or}
use Rattle.hp_rows.proofs.Steps.{stops}
use Rattle.hp_rows.proofs.line.reduce.Goals as goal

pub returns-in-Err : goal.returns-in-Err
returns-in-Err c =
    let i : c.index-lines-at.result ≡ get_or c.args.lines.now c.loop-at.at [] = get_or_read c.args.lines.now c.loop-at.at c.index-lines-at.result c.loop-at-test.true c.index-lines-at.is [] in
    let t = rw (c.in-Err.is, c.as_slice.ensures, i) at c.clear.ensures.told in
    stops c.args.lines.now c.loop-at.at c.args.row c.loop-at.line c.in-Err.fail c.loop-at-test.true c.loop-at.invariant.so_far t
