use Rattle.hp_diff.proofs.States.{cut_back}
use Rattle.hp_diff.proofs.state.drop_edge.Goals as goal

pub returns : goal.returns
returns c = cut_back _ _ _ c.requires.some c.requires.state c.cut.ensures
