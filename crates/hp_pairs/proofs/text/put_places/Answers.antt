use Rattle.std.proofs.Common.{arith}
use Rattle.std.specs.Prelude.{codes}
use Rattle.std.proofs.lemmas.Grind.{common_steps}
use Rattle.hp_ast.proofs.Join.{join_first, join_more}
use Rattle.hp_pairs.specs.Text.{place_text}
use Rattle.hp_pairs.proofs.text.put_places.Goals as goal

pub loop-i-preserved : goal.loop-i-preserved
loop-i-preserved c = grind (arith, common_steps, join_first place_text (codes ", "), join_more place_text (codes ", "))
