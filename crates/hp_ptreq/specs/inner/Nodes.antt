-- How rows stand between numbered nodes, of which node 0 is null.
use Rattle.std.specs.Prelude.{◌≡◌, ℕ, ◌-◌, ◌≤◌, List, length, Some, pos, true, slice_get}
use Rattle.hp_math.specs.Rational.{ℚ, whole}
use Rattle.hp_lit.specs.declared.literal.PtrLit.{PtrLit}
use Rattle.hp_nodes.specs.Nodes.{name_at}
use Rattle.hp_ptreq.specs.declared.classes.Join.{Join}
use Rattle.hp_ptreq.specs.inner.Classes.{label_at}

-- these are the nodes of the row's names
pub record AreNodes (names : List ℕ) (row : PtrLit) (left right : ℕ) : Type 0 where
  pub left_in : left ≤ length names
  pub right_in : right ≤ length names
  pub left_is : name_at names left ≡ row.left
  pub right_is : name_at names right ≡ row.right

-- the nodes of the row's names stand so to each other
pub record AtNodes (names : List ℕ) (row : PtrLit) (Stand : ℕ → ℕ → Type 0) : Type 0 where
  pub left : ℕ
  pub right : ℕ
  pub nodes : AreNodes names row left right
  pub stand : Stand left right

-- the equality of the row that it tells
pub record IsJoin (names : List ℕ) (rows : List PtrLit) (j : Join) : Type 0 where
  pub row : PtrLit
  pub lit : 1 ≤ j.lit
  pub at : slice_get rows (j.lit - 1) ≡ Some row
  pub same : row.same ≡ true
  pub nodes : AreNodes names row j.left j.right

-- the label of a node as its value
abbrev pub label_value : List ℕ → ℕ → ℚ
label_value labels x = whole (pos (label_at labels x))
