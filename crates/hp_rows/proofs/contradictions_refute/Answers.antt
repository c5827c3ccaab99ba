use Rattle.hp_rows.proofs.Refute as laws
use Rattle.hp_rows.proofs.contradictions_refute.Goals as goal

pub returns : goal.returns
returns c = laws.contradictions_refute
