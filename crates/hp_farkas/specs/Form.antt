-- The form of a combination.
use Rattle.std.specs.Prelude.{List}
use Rattle.hp_lit.specs.declared.literal.Lit.{Lit}
use Rattle.hp_lit.specs.declared.proof.Share.{Share}
use Rattle.hp_lit.specs.Leaf.{Taken, AreTaken, IsRising}

-- each share takes a literal over fractions of the path, and the numbers of the literals rise
pub record IsCombination (path : List Lit) (shares : List Share) : Type 0 where
  pub taken : List Taken
  pub are_taken : AreTaken path shares taken
  pub rising : IsRising shares
