use Rattle.hp_linear.proofs.FitRows as rows
use Rattle.hp_linear.proofs.laws.lin_literals_are_fit.Goals as goal

pub returns : goal.returns
returns c = rows.lin_literals_are_fit
