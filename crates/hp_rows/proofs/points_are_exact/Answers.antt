use Rattle.hp_rows.proofs.Exact as laws
use Rattle.hp_rows.proofs.points_are_exact.Goals as goal

pub returns : goal.returns
returns c = laws.points_are_exact
