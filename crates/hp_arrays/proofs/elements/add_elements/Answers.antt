use Rattle.std.proofs.Common.{refl}
use Rattle.hp_base.proofs.Making.{begins_same}
use Rattle.hp_arrays.proofs.elements.add_elements.Goals as goal

pub loop-func-init : goal.loop-func-init
loop-func-init c = record { rest = refl; begins = begins_same c.args.g.now }
