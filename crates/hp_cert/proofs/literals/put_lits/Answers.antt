use Rattle.std.proofs.Common.{arith}
use Rattle.std.specs.Prelude.{codes}
use Rattle.std.proofs.lemmas.Grind.{common_steps}
use Rattle.hp_ast.proofs.Join.{join_first, join_more}
use Rattle.hp_cert.specs.Literals.{lit_text}
use Rattle.hp_cert.proofs.literals.put_lits.Goals as goal

pub loop-i-preserved : goal.loop-i-preserved
loop-i-preserved c = grind (arith, common_steps, join_first (lit_text c.args.names.now) (codes " | "), join_more (lit_text c.args.names.now) (codes " | "))
