use Rattle.std.proofs.Common.{◌∙◌, ◌≤◌, arith, ap, subst, sym, length, replicate, false}
use Rattle.hp_cert.proofs.Spelling.{spelled}
use Rattle.hp_cert.proofs.Splitting.{count_marks, refutes, split_lines}
use Rattle.hp_cert.specs.Entries.{AreSplitLines, with_marks}
use Rattle.hp_cert.proofs.listing.entries.Goals as goal

pub listed-requires : goal.listed-requires
listed-requires c =
    let g = c.args.g.now in
    let marks = c.as_slice-2.ensures.value ∙ c.in_ok-marks.ensures ∙ ap (with_marks (replicate (length g.lines) false)) c.as_slice.ensures in
    ap length marks ∙ count_marks g c.args.tree

pub returns-clause-lines : goal.returns-clause-lines
returns-clause-lines c =
    let g = c.args.g.now in
    let marks = c.as_slice-2.ensures.value ∙ c.in_ok-marks.ensures ∙ ap (with_marks (replicate (length g.lines) false)) c.as_slice.ensures in
    subst (AreSplitLines g c.args.tree) (sym c.in_ok-lines.ensures.lines) (split_lines g c.args.tree c.as_slice-2.result.now c.requires.splits marks)

pub returns-clause-refutes : goal.returns-clause-refutes
returns-clause-refutes c = λ closed.
    let g = c.args.g.now in
    let marks = c.as_slice-2.ensures.value ∙ c.in_ok-marks.ensures ∙ ap (with_marks (replicate (length g.lines) false)) c.as_slice.ensures in
    let lines = subst (AreSplitLines g c.args.tree) (sym c.in_ok-lines.ensures.lines) (split_lines g c.args.tree c.as_slice-2.result.now c.requires.splits marks) in
    refutes g (record { defs = c.in_ok-defs.defs; lines = c.in_ok-lines.lines; tree = c.args.tree }) c.in_ok-defs.ensures.defs lines closed

pub returns-clause-spelled : goal.returns-clause-spelled
returns-clause-spelled c = λ named reading.
    let g = c.args.g.now in
    let marks = c.as_slice-2.ensures.value ∙ c.in_ok-marks.ensures ∙ ap (with_marks (replicate (length g.lines) false)) c.as_slice.ensures in
    let lines = subst (AreSplitLines g c.args.tree) (sym c.in_ok-lines.ensures.lines) (split_lines g c.args.tree c.as_slice-2.result.now c.requires.splits marks) in
    let few : length c.args.tree ≤ 4294967295 = (let m = c.if-len.false in let n = c.len.ensures in omega arith) in
    spelled g named (record { defs = c.in_ok-defs.defs; lines = c.in_ok-lines.lines; tree = c.args.tree }) c.in_ok-defs.ensures.defs (omega (arith, c.in_ok-defs.ensures.few)) lines c.in_ok-lines.ensures.numbers few reading
