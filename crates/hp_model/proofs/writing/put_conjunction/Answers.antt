use Rattle.std.proofs.Common.{arith}
use Rattle.std.specs.Prelude.{codes}
use Rattle.std.proofs.lemmas.Grind.{common_steps}
use Rattle.hp_ast.proofs.Join.{join_first, join_more}
use Rattle.hp_ast.specs.Printing.{atom_text}
use Rattle.hp_model.proofs.writing.put_conjunction.Goals as goal

pub loop-i-preserved : goal.loop-i-preserved
loop-i-preserved c = grind (arith, common_steps, join_first atom_text (codes " & "), join_more atom_text (codes " & "))
