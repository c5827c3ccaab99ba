use Rattle.std.proofs.Common.{arith}
use Rattle.std.specs.Prelude.{codes}
use Rattle.std.proofs.lemmas.Grind.{common_steps}
use Rattle.hp_ast.proofs.Unfold.{text-Apply, text-Add, text-Sub, text-Neg, text-Scale}
use Rattle.hp_ast.proofs.Kept.{behind_two, behind_three, behind_four, kept_on, kept_at}
use Rattle.hp_ast.proofs.Join.{join_first, join_more}
use Rattle.hp_ast.specs.Printing.{term_text}
use Rattle.hp_ast.proofs.printing.+put.Goals as goal

pub put_arguments-loop-i-preserved : goal.put_arguments-loop-i-preserved
put_arguments-loop-i-preserved t c =
    grind (arith, common_steps, join_first term_text (codes ", "), join_more term_text (codes ", "))

pub put_at-returns-in_ok-put_arguments-in-Apply : goal.put_at-returns-in_ok-put_arguments-in-Apply
put_at-returns-in_ok-put_arguments-in-Apply t c = grind (arith, common_steps, text-Apply c.in-Apply.func c.in-Apply.args c.args.place)

pub put_at-returns-in_ok-put_at-in-Add-2-clause-put : goal.put_at-returns-in_ok-put_at-in-Add-2-clause-put
put_at-returns-in_ok-put_at-in-Add-2-clause-put t c = grind (arith, common_steps, text-Add c.in-Add.left c.in-Add.right c.args.place)

pub put_at-returns-in_ok-put_at-in-Sub-2-clause-put : goal.put_at-returns-in_ok-put_at-in-Sub-2-clause-put
put_at-returns-in_ok-put_at-in-Sub-2-clause-put t c = grind (arith, common_steps, text-Sub c.in-Sub.left c.in-Sub.right c.args.place)

pub put_at-returns-in_ok-put_at-in-Neg-clause-put : goal.put_at-returns-in_ok-put_at-in-Neg-clause-put
put_at-returns-in_ok-put_at-in-Neg-clause-put t c = grind (arith, common_steps, text-Neg c.in-Neg.inner c.args.place)

pub put_at-returns-in_ok-put_at-in-Scale-clause-put : goal.put_at-returns-in_ok-put_at-in-Scale-clause-put
put_at-returns-in_ok-put_at-in-Scale-clause-put t c = grind (arith, common_steps, text-Scale c.in-Scale.value c.in-Scale.inner c.args.place)

pub put_at-returns-in_ok-put_at-in-Add-2-clause-kept : goal.put_at-returns-in_ok-put_at-in-Add-2-clause-kept
put_at-returns-in_ok-put_at-in-Add-2-clause-kept t c =
    kept_on c.put_closing.result c.args.out.now c.put_at-in-Add.new.out c.put_closing.new.out
    (behind_four _ _ _ _ _ _ _ _ _ c.in_ok-put_opening-in-Add.ensures.put c.in_ok-put_at-in-Add.ensures.put c.in_ok-put_text-in-Add.ensures.put c.in_ok-put_at-in-Add-2.ensures.put) c.put_closing.ensures.kept

pub put_at-returns-in_err-put_at-in-Add-2-clause-kept : goal.put_at-returns-in_err-put_at-in-Add-2-clause-kept
put_at-returns-in_err-put_at-in-Add-2-clause-kept t c =
    kept_at c.from_residual-in_err-put_at-in-Add-2.result c.args.out.now c.put_text-in-Add.new.out c.put_at-in-Add.new.out
    (behind_three _ _ _ _ _ _ _ c.in_ok-put_opening-in-Add.ensures.put c.in_ok-put_at-in-Add.ensures.put c.in_ok-put_text-in-Add.ensures.put) c.in_err-put_at-in-Add-2.ensures.kept

pub put_at-returns-in_ok-put_at-in-Sub-2-clause-kept : goal.put_at-returns-in_ok-put_at-in-Sub-2-clause-kept
put_at-returns-in_ok-put_at-in-Sub-2-clause-kept t c =
    kept_on c.put_closing-in-Sub.result c.args.out.now c.put_at-in-Sub-2.new.out c.put_closing-in-Sub.new.out
    (behind_four _ _ _ _ _ _ _ _ _ c.in_ok-put_opening-in-Sub.ensures.put c.in_ok-put_at-in-Sub.ensures.put c.in_ok-put_text-in-Sub.ensures.put c.in_ok-put_at-in-Sub-2.ensures.put) c.put_closing-in-Sub.ensures.kept

pub put_at-returns-in_err-put_at-in-Sub-2-clause-kept : goal.put_at-returns-in_err-put_at-in-Sub-2-clause-kept
put_at-returns-in_err-put_at-in-Sub-2-clause-kept t c =
    kept_at c.from_residual-in_err-put_at-in-Sub-2.result c.args.out.now c.put_text-in-Sub.new.out c.put_at-in-Sub-2.new.out
    (behind_three _ _ _ _ _ _ _ c.in_ok-put_opening-in-Sub.ensures.put c.in_ok-put_at-in-Sub.ensures.put c.in_ok-put_text-in-Sub.ensures.put) c.in_err-put_at-in-Sub-2.ensures.kept

pub put_at-returns-in_ok-put_at-in-Neg-clause-kept : goal.put_at-returns-in_ok-put_at-in-Neg-clause-kept
put_at-returns-in_ok-put_at-in-Neg-clause-kept t c =
    kept_on c.put_closing-in-Neg.result c.args.out.now c.put_at-in-Neg.new.out c.put_closing-in-Neg.new.out
    (behind_three _ _ _ _ _ _ _ c.in_ok-put_opening-in-Neg.ensures.put c.in_ok-put_text-in-Neg.ensures.put c.in_ok-put_at-in-Neg.ensures.put) c.put_closing-in-Neg.ensures.kept

pub put_at-returns-in_err-put_at-in-Neg-clause-kept : goal.put_at-returns-in_err-put_at-in-Neg-clause-kept
put_at-returns-in_err-put_at-in-Neg-clause-kept t c =
    kept_at c.from_residual-in_err-put_at-in-Neg.result c.args.out.now c.put_text-in-Neg.new.out c.put_at-in-Neg.new.out
    (behind_two _ _ _ _ _ c.in_ok-put_opening-in-Neg.ensures.put c.in_ok-put_text-in-Neg.ensures.put) c.in_err-put_at-in-Neg.ensures.kept

pub put_at-returns-in_ok-put_at-in-Scale-clause-kept : goal.put_at-returns-in_ok-put_at-in-Scale-clause-kept
put_at-returns-in_ok-put_at-in-Scale-clause-kept t c =
    kept_on c.put_closing-in-Scale.result c.args.out.now c.put_at-in-Scale.new.out c.put_closing-in-Scale.new.out
    (behind_four _ _ _ _ _ _ _ _ _ c.in_ok-put_opening-in-Scale.ensures.put c.in_ok-put_frac-in-Scale.ensures.put c.in_ok-put_text-in-Scale.ensures.put c.in_ok-put_at-in-Scale.ensures.put) c.put_closing-in-Scale.ensures.kept

pub put_at-returns-in_err-put_at-in-Scale-clause-kept : goal.put_at-returns-in_err-put_at-in-Scale-clause-kept
put_at-returns-in_err-put_at-in-Scale-clause-kept t c =
    kept_at c.from_residual-in_err-put_at-in-Scale.result c.args.out.now c.put_text-in-Scale.new.out c.put_at-in-Scale.new.out
    (behind_three _ _ _ _ _ _ _ c.in_ok-put_opening-in-Scale.ensures.put c.in_ok-put_frac-in-Scale.ensures.put c.in_ok-put_text-in-Scale.ensures.put) c.in_err-put_at-in-Scale.ensures.kept
