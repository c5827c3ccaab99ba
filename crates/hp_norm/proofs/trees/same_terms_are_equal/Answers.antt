use Rattle.hp_norm.proofs.SameTrees.{same_terms_are_equal}
use Rattle.hp_norm.proofs.trees.same_terms_are_equal.Goals as goal

pub returns : goal.returns
returns c = same_terms_are_equal
