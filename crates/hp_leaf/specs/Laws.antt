-- What trees say.
use Rattle.std.specs.Prelude.{ℕ, ◌<◌, List}
use Rattle.std.specs.List.{All}
use Rattle.hp_lit.specs.declared.line.Line.{Line}
use Rattle.hp_tree.specs.declared.problem.Sort.{Sort}
use Rattle.hp_lit.specs.Truth.{Values, LineIsTrue}
use Rattle.hp_leaf.specs.declared.tree.Node.{Node}
use Rattle.hp_leaf.specs.Tree.{IsClosed, IsSpent, limit}

abbrev pub ClosedTreesRefute : Type 0
ClosedTreesRefute = (lines : List Line) (tree : List Node) → IsClosed lines tree → (v : Values) → All (λ line. LineIsTrue v line.lits) lines → ⊥

abbrev pub SpentTreesAreSmall : Type 0
SpentTreesAreSmall = (sorts : List Sort) (lines : List Line) (tree : List Node) (most : ℕ) → IsSpent sorts lines tree most → most < limit lines
