use Rattle.hp_norm.proofs.HoldsAtOnce.{clauses_hold_at_once}
use Rattle.hp_norm.proofs.laws.clauses_hold_at_once.Goals as goal

pub returns : goal.returns
returns c = clauses_hold_at_once
