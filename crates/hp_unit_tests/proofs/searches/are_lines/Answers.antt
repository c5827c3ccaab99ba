use Rattle.std.proofs.Common.{◌≤◌, arith, length, subst}
use Rattle.std.specs.List.{All}
use Rattle.std.proofs.lemmas.List.{take_all}
use Rattle.std.proofs.lemmas.List.Elements.{All-more}
use Rattle.hp_lit.specs.declared.line.Line.{Line}
use Rattle.hp_search.specs.Lines.{AreFit}
use Rattle.hp_unit_tests.proofs.searches.are_lines.Goals as goal

pub loop-line-preserved : goal.loop-line-preserved
loop-line-preserved c =
    let P = λ (line : Line). AreFit c.args.sorts.now line.lits in
    All-more P c.args.lines.now c.loop-line.line-index c.line-item.result c.loop-line-test.true c.loop-line.invariant (subst P c.line-item.is (subst (AreFit c.args.sorts.now) c.as_slice.ensures (c.are_fit.ensures.0 c.if-not-are_fit.false)))

pub returns : goal.returns
returns c = λ _.
    let end : length c.args.lines.now ≤ c.loop-line.line-index = omega arith in
    subst (All (λ (line : Line). AreFit c.args.sorts.now line.lits)) (take_all c.loop-line.line-index c.args.lines.now end) c.loop-line.invariant
