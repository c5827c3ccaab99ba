use Rattle.hp_leaf.proofs.Renumbered as renumbered
use Rattle.hp_leaf.proofs.renumbering_keeps_leaves.Goals as goal

pub returns : goal.returns
returns c = renumbered.renumbering_keeps_leaves
