-- The texts of the nodes of a tree.
use Rattle.std.specs.Prelude.{ℕ, Bool, true, false, List, ◌++◌, codes}
use Rattle.std.specs.List.{flat_map}
use Rattle.std.specs.Fmt.{decimal, signed_decimal}
use Rattle.hp_lit.specs.declared.proof.Share.{Share}
use Rattle.hp_lit.specs.declared.proof.Step.{Step}
use Rattle.hp_leaf.specs.declared.tree.LeafProof.{LeafProof}
use Rattle.hp_leaf.specs.declared.tree.LeafProof.TheVariants.{Num, Idx, Ptr}
use Rattle.hp_leaf.specs.declared.tree.Node.{Node}
use Rattle.hp_leaf.specs.declared.tree.Node.TheVariants.{Split, Leaf, Unopened}

-- a literal with its multiplier
abbrev pub share_text : Share → List ℕ
share_text share = codes " " ++ decimal share.lit ++ codes ":" ++ signed_decimal share.times

-- a literal as it stands, or turned about
abbrev pub direction : Bool → List ℕ
direction true = codes " +"
direction false = codes " -"

abbrev pub step_text : Step → List ℕ
step_text step = direction step.forward ++ decimal step.lit

abbrev pub link_text : ℕ → List ℕ
link_text link = codes " " ++ decimal link

abbrev pub leaf_text : LeafProof → List ℕ
leaf_text (Num shares) = codes "leaf num" ++ flat_map share_text shares
leaf_text (Idx steps) = codes "leaf idx" ++ flat_map step_text steps
leaf_text (Ptr ne links) = codes "leaf ptr " ++ decimal ne ++ codes ":" ++ flat_map link_text links

abbrev pub node_text : Node → List ℕ
node_text (Split line) = codes "split " ++ decimal line
node_text (Leaf proof) = leaf_text proof
node_text Unopened = codes "open"
