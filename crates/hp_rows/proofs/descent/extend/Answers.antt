use Rattle.std.proofs.Common.{refl, reverse, ◌++◌, ◌∷◌, []}
use Rattle.hp_rows.proofs.Steps.{linked, told_push, pushed_fits}
use Rattle.hp_rows.proofs.descent.extend.Goals as goal

pub next_line-requires-clause-next : goal.next_line-requires-clause-next
next_line-requires-clause-next c =
    let s = c.args.state.now in
    rw c.as_slice.ensures (linked c.args.rows.now c.args.width c.requires.wide s.chain s.lines (reverse s.found) s.point s.at c.requires.state c.requires.more c.requires.other c.requires.broken)

pub push-requires : goal.push-requires
push-requires c =
    let s = c.args.state.now in
    let e = rw (c.in-Line.is, c.as_slice-2.ensures) at c.next_line.ensures in
    pushed_fits c.args.rows.now c.args.width c.requires.wide s.chain s.lines (reverse s.found) s.point s.at c.requires.state c.requires.more c.requires.other c.requires.broken
    c.in-Line.line (s.lines ++ c.in-Line.line ∷ []) e.0 e.1 refl

pub returns-in-Line : goal.returns-in-Line
returns-in-Line c =
    let s = c.args.state.now in
    let e = rw (c.in-Line.is, c.as_slice-2.ensures) at c.next_line.ensures in
    told_push c.args.rows.now c.args.width c.requires.wide s _ c.in-Line.line c.push.result c.requires.state c.requires.more c.requires.other c.requires.broken e.0 e.1 c.push.ensures
