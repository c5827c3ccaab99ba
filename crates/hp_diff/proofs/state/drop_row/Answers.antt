use Rattle.hp_diff.proofs.States.{both_off}
use Rattle.hp_diff.proofs.state.drop_row.Goals as goal

pub returns-then-row : goal.returns-then-row
returns-then-row c = both_off _ _ _ _ _ c.if-row.true c.drop_edge.ensures c.drop_edge-then-row.ensures
