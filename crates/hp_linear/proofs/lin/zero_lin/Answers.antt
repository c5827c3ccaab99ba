use Rattle.std.proofs.Common.{◌∙◌}
use Rattle.hp_linear.proofs.Naming.{zero_found}
use Rattle.hp_linear.proofs.lin.zero_lin.Goals as goal

pub returns : goal.returns
returns c = c.number_lin.ensures ∙ zero_found c.new.result c.new.ensures
