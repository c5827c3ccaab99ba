use Rattle.std.proofs.Common.{ap, sym, ◌∙◌}
use Rattle.hp_linear.specs.Steps.{unless_wide}
use Rattle.hp_linear.proofs.numbers.product.Goals as goal

pub returns-in-Ok : goal.returns-in-Ok
returns-in-Ok c = ap unless_wide (sym c.in-Ok.is ∙ c.mul.ensures.formula)

pub returns-in-Err : goal.returns-in-Err
returns-in-Err c = ap unless_wide (sym c.in-Err.is ∙ c.mul.ensures.formula)
