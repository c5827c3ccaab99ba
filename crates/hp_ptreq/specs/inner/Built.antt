-- What the classes say of the rows.
use Rattle.std.specs.Prelude.{◌≡◌, ℕ, ◌+◌, ◌<◌, List, length, true, false, Some, slice_get, take}
use Rattle.std.specs.List.{All}
use Rattle.hp_lit.specs.declared.literal.PtrLit.{PtrLit}
use Rattle.hp_ptreq.specs.declared.answer.Clash.{Clash}
use Rattle.hp_ptreq.specs.declared.classes.Classes.{Classes}
use Rattle.hp_ptreq.specs.inner.Classes.{AreFrom, AreTogether, AreTrees, label_at}
use Rattle.hp_ptreq.specs.inner.Nodes.{AreNodes, AtNodes, IsJoin}

-- where the row is an equality, its nodes are of one class
abbrev pub IsKept : List ℕ → List ℕ → PtrLit → Type 0
IsKept names parents row = row.same ≡ true → AtNodes names row (AreTogether parents)

-- the classes that the equalities among the first rows make
pub record AreClasses (names : List ℕ) (rows : List PtrLit) (at : ℕ) (classes : Classes) : Type 0 where
  pub trees : AreTrees (length names + 1) classes.parents
  pub each : All (IsJoin names rows) classes.joins
  pub from : AreFrom classes.joins classes.parents
  pub kept : All (IsKept names classes.parents) (take at rows)

-- where the row is an inequality, its nodes have different labels
abbrev pub IsApart : List ℕ → List ℕ → PtrLit → Type 0
IsApart names labels row = row.same ≡ false → AtNodes names row (λ x y. label_at labels x ≡ label_at labels y → ⊥)

-- an inequality whose nodes have one label
pub record IsClash (names : List ℕ) (rows : List PtrLit) (labels : List ℕ) (clash : Clash) : Type 0 where
  pub row : PtrLit
  pub within : clash.row < length rows
  pub at : slice_get rows clash.row ≡ Some row
  pub apart : row.same ≡ false
  pub nodes : AreNodes names row clash.left clash.right
  pub label : label_at labels clash.left ≡ label_at labels clash.right
