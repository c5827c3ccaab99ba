use Rattle.hp_lit.proofs.Cycles as cycles
use Rattle.hp_lit.proofs.no_idx_leaf.Goals as goal

pub returns : goal.returns
returns c = cycles.no_idx_leaf
