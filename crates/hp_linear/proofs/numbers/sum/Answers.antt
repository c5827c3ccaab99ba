use Rattle.std.proofs.Common.{ap, sym, ◌∙◌}
use Rattle.hp_linear.specs.Steps.{unless_wide}
use Rattle.hp_linear.proofs.numbers.sum.Goals as goal

pub returns-in-Ok : goal.returns-in-Ok
returns-in-Ok c = ap unless_wide (sym c.in-Ok.is ∙ c.add.ensures.formula)

pub returns-in-Err : goal.returns-in-Err
returns-in-Err c = ap unless_wide (sym c.in-Err.is ∙ c.add.ensures.formula)
