use Rattle.std.proofs.Common.{arith}
use Rattle.std.proofs.lemmas.Grind.{common_steps}
use Rattle.hp_cert.proofs.Join.{place_first, place_more}
use Rattle.hp_cert.specs.Forms.{first_part, further_part}
use Rattle.hp_cert.proofs.forms.put_multiples.Goals as goal

pub loop-i-preserved : goal.loop-i-preserved
loop-i-preserved c = grind (arith, common_steps, place_first (first_part c.args.names.now) (further_part c.args.names.now), place_more (first_part c.args.names.now) (further_part c.args.names.now))
