use Rattle.std.proofs.Common.{arith}
use Rattle.std.specs.Prelude.{codes}
use Rattle.std.proofs.lemmas.Grind.{common_steps}
use Rattle.hp_ast.proofs.Join.{join_first, join_more}
use Rattle.hp_cert.specs.Forms.{arg_text}
use Rattle.hp_cert.proofs.forms.put_args.Goals as goal

pub loop-i-preserved : goal.loop-i-preserved
loop-i-preserved c = grind (arith, common_steps, join_first (arg_text c.args.names.now) (codes ", "), join_more (arg_text c.args.names.now) (codes ", "))
