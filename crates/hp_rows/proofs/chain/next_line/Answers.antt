use Rattle.std.proofs.Common.{◌≤◌, ◌∙◌, ap, subst}
use Rattle.hp_rows.specs.Lines.{pivot}
use Rattle.hp_rows.proofs.Chains.{lines_fit, long, refuted}
use Rattle.hp_rows.proofs.chain.next_line.Goals as goal

pub reduce-requires : goal.reduce-requires
reduce-requires c =
    let l = rw c.in-Ok.is at c.line_of.ensures in
    rw l (lines_fit c.args.rows.now c.args.width c.requires.wide c.args.chain.now c.args.lines.now c.args.at c.requires.next c.requires.made c.requires.pivots)

pub times_of-requires : goal.times_of-requires
times_of-requires c =
    let l = rw c.in-Ok.is at c.line_of.ensures in
    let r = rw (c.in-Ok-reduce.is, l) at c.reduce.ensures in
    rw c.as_slice-2.ensures
    (long c.args.rows.now c.args.width c.requires.wide c.args.chain.now c.args.lines.now c.args.at c.requires.next c.requires.made c.requires.pivots c.in-Ok-reduce.line r)

pub returns-in-Ok-times_of : goal.returns-in-Ok-times_of
returns-in-Ok-times_of c =
    let l = rw c.in-Ok.is at c.line_of.ensures in
    let r = rw (c.in-Ok-reduce.is, l) at c.reduce.ensures in
    let p : c.args.width ≤ pivot c.in-Ok-reduce.line = subst (λ n. c.args.width ≤ n) (c.pivot.ensures ∙ ap pivot c.as_slice.ensures) c.if-pivot-width.false in
    let e = rw (c.in-Ok-times_of.is, c.as_slice-2.ensures) at c.times_of.ensures in
    refuted c.args.rows.now c.args.width c.requires.wide c.args.chain.now c.args.lines.now c.args.at c.requires.next c.requires.made c.requires.pivots
    c.in-Ok-reduce.line c.in-Ok-times_of.times r p e
