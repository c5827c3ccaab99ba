use Rattle.std.proofs.Common.{◌<◌, get_or, length, subst, sym}
use Rattle.hp_defs.specs.Names.{NameList}
use Rattle.hp_class.specs.Points.{function_lines}
use Rattle.hp_class.proofs.Pairing.{turned_err, turned_more, turned_start}
use Rattle.hp_class.proofs.congruence.add_function_lines.Goals as goal

pub loop-func-init : goal.loop-func-init
loop-func-init c = turned_start function_lines c.args.funcs.now c.args.g.now

pub lines_of-requires : goal.lines_of-requires
lines_of-requires c =
    subst (λ (n : NameList). get_or c.args.funcs.now c.loop-func.func-index 0 < length n.signatures) (sym c.loop-func.invariant.names) (c.requires c.loop-func.func-index 0 c.loop-func-test.true)

pub returns-in_err-lines_of-clause-made : goal.returns-in_err-lines_of-clause-made
returns-in_err-lines_of-clause-made c =
    turned_err function_lines c.args.funcs.now c.loop-func.func-index 0 c.loop-func-test.true _ _ c.loop-func.invariant _ _ _
    c.in_err-lines_of.ensures.made c.from_residual.ensures.1

pub loop-func-preserved : goal.loop-func-preserved
loop-func-preserved c =
    turned_more function_lines c.args.funcs.now c.loop-func.func-index 0 c.loop-func-test.true _ _ c.loop-func.invariant _
    c.in_ok-lines_of.ensures.made c.in_ok-lines_of.ensures.names c.lines_of.ensures.kept
