use Rattle.hp_rows.proofs.Exact as laws
use Rattle.hp_rows.proofs.points_meet_chains.Goals as goal

pub returns : goal.returns
returns c = laws.points_meet_chains
