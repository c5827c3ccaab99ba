use Rattle.hp_lit.proofs.Farkas as farkas
use Rattle.hp_lit.proofs.no_num_leaf.Goals as goal

pub returns : goal.returns
returns c = farkas.no_num_leaf
