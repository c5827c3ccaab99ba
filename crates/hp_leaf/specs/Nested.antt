-- The same trees by nesting: below a split stand the trees of its children, and then what comes after the split.
use Rattle.std.specs.Prelude.{List, [], ◌∷◌, length}
use Rattle.hp_lit.specs.declared.line.Line.{Line}
use Rattle.hp_leaf.specs.declared.tree.LeafProof.{LeafProof}
use Rattle.std.specs.Prelude.{ℕ, ◌↔◌}
use Rattle.hp_leaf.specs.declared.tree.Node.{Node}
use Rattle.hp_leaf.specs.declared.tree.Node.TheVariants.{Split, Leaf}
use Rattle.hp_leaf.specs.Leaf.{IsValid}
use Rattle.hp_leaf.specs.Tree.{lits_at, IsLine, Place, place_lits, children, IsClosed}

-- trees at these places, one after another, and then the rest
pub data AreTrees (lines : List Line) : List Place → List Node → List Node → Type 0 where
  none : {nodes : List Node} → AreTrees lines [] nodes nodes
  closed : {place : Place} {places : List Place} {nodes rest : List Node} (proof : LeafProof) → IsValid (place_lits lines place) proof → AreTrees lines places nodes rest
      → AreTrees lines (place ∷ places) (Leaf proof ∷ nodes) rest
  split : {place : Place} {places : List Place} {nodes middle rest : List Node} (line : ℕ) → IsLine lines line
      → AreTrees lines (children place line 0 (length (lits_at lines line))) nodes middle → AreTrees lines places middle rest
      → AreTrees lines (place ∷ places) (Split line ∷ nodes) rest

abbrev pub ClosedIsNested : Type 0
ClosedIsNested = (lines : List Line) (tree : List Node) → IsClosed lines tree ↔ AreTrees lines ([] ∷ []) tree []
