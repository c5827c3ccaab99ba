use Rattle.std.proofs.Common.{arith, ◌∙◌}
use Rattle.std.proofs.lemmas.Grind.{common_steps}
use Rattle.hp_ast.proofs.Join.{join_first, join_more}
use Rattle.hp_ast.proofs.Kept.{behind_one, behind_two, kept_at}
use Rattle.hp_ast.specs.Printing.{atom_text}
use Rattle.hp_ast.proofs.printing.put_atoms.Goals.{then-i-gt0+in_ok-put_text, else-i-gt0}
use Rattle.hp_ast.proofs.printing.put_atoms.Goals as goal

pub loop-i-preserved : goal.loop-i-preserved
loop-i-preserved c =
    grind (arith, common_steps, join_first atom_text c.args.separator.now, join_more atom_text c.args.separator.now)

-- an atom that fails leaves the atoms before it
pub returns-in_err-put_atom-clause-kept : goal.returns-in_err-put_atom-clause-kept
returns-in_err-put_atom-clause-kept c =
    kept_at c.from_residual-in_err-put_atom.result c.args.out.now c.if-i-gt0.out c.put_atom.new.out (elim c.if-i-gt0.branch [
      | then-i-gt0+in_ok-put_text w ↦ behind_two _ _ _ _ _ c.loop-i.invariant (w.out-is ∙ w.in_ok-put_text.ensures.put)
      | else-i-gt0 w ↦ behind_one _ _ _ (w.out-is ∙ c.loop-i.invariant)
    ]) c.in_err-put_atom.ensures.kept
