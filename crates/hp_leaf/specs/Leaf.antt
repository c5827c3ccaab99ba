-- What makes a leaf valid over the literals of its path.
use Rattle.std.specs.Prelude.{List}
use Rattle.hp_lit.specs.declared.literal.Lit.{Lit}
use Rattle.hp_lit.specs.Leaf.{IsValidNum}
use Rattle.hp_leaf.specs.declared.tree.LeafProof.{LeafProof}
use Rattle.hp_leaf.specs.declared.tree.LeafProof.TheVariants.{Num, Idx, Ptr}
use Rattle.hp_lit.specs.Cycle.{IsValidIdx}
use Rattle.hp_lit.specs.Pointers.{IsValidPtr}

abbrev pub IsValid : List Lit → LeafProof → Type 0
IsValid path (Num shares) = IsValidNum path shares
IsValid path (Idx steps) = IsValidIdx path steps
IsValid path (Ptr ne links) = IsValidPtr path ne links
