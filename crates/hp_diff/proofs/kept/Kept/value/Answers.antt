use Rattle.hp_diff.proofs.RowEdges.{all_kept}
use Rattle.hp_diff.proofs.kept.Kept.value.Goals as goal

pub returns-clause-keeps : goal.returns-clause-keeps
returns-clause-keeps c = rw (← c.self.view_is) (all_kept _ _ _ c.self.invariant.edges c.self.invariant.state)
