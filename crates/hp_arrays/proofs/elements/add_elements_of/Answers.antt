use Rattle.std.proofs.Common.{refl}
use Rattle.hp_base.proofs.Making.{begins_same}
use Rattle.hp_arrays.proofs.elements.add_elements_of.Goals as goal

pub loop-index-init : goal.loop-index-init
loop-index-init c = record { rest = refl; begins = begins_same c.args.g.now }
