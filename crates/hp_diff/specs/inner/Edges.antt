-- How rows are edges between numbered nodes.
use Rattle.std.specs.Prelude.{◌≡◌, ◌⊎◌, ℕ, ◌-◌, ◌≤◌, ℤ, ◌-ℤ◌, List, length, Some, true, false, slice_get}
use Rattle.std.specs.List.{All, Contains}
use Rattle.hp_math.specs.Rational.{ℚ, whole}
use Rattle.hp_lit.specs.declared.literal.IdxLit.{IdxLit}
use Rattle.hp_lit.specs.declared.proof.Step.{Step}
use Rattle.hp_lit.specs.Cycle.{turned}
use Rattle.hp_nodes.specs.Nodes.{name_at}
use Rattle.hp_diff.specs.declared.edges.Edge.{Edge}
use Rattle.hp_diff.specs.inner.Labels.{edge_at}
use Rattle.hp_diff.specs.inner.Settled.{value_at}

-- the edge between the nodes of the row's names, with its bound
pub record IsOver (names : List ℕ) (e : Edge) (row : IdxLit) : Type 0 where
  pub to : e.to ≤ length names
  pub from : e.from ≤ length names
  pub left : name_at names e.to ≡ row.left
  pub right : name_at names e.from ≡ row.right
  pub bound : e.bound ≡ row.bound

-- the edge of the row that it tells, as the row stands, or turned about where the row is an equality
pub record IsEdgeOf (names : List ℕ) (rows : List IdxLit) (e : Edge) : Type 0 where
  pub row : IdxLit
  pub lit : 1 ≤ e.lit
  pub at : slice_get rows (e.lit - 1) ≡ Some row
  pub may : (e.forward ≡ true) ⊎ (row.exact ≡ true)
  pub over : IsOver names e (turned row e.forward)

abbrev pub HasEdge : List ℕ → List Edge → IdxLit → Type 0
HasEdge names edges row = (e : Edge) × Contains edges e × IsOver names e row

-- the row has an edge, and where it is an equality, one turned about
pub record IsCovered (names : List ℕ) (edges : List Edge) (row : IdxLit) : Type 0 where
  pub forward : HasEdge names edges row
  pub backward : row.exact ≡ true → HasEdge names edges (turned row false)

-- the edges are those of the rows
pub record AreEdges (names : List ℕ) (rows : List IdxLit) (edges : List Edge) : Type 0 where
  pub each : All (IsEdgeOf names rows) edges
  pub cover : All (IsCovered names edges) rows

-- the step over an edge
abbrev pub step_at : List Edge → ℕ → Step
step_at edges k = record { lit = (edge_at edges k).lit; forward = (edge_at edges k).forward }

-- the value of a node, counted from that of node 0
abbrev pub offset_at : List ℤ → ℕ → ℚ
offset_at values x = whole (value_at values x -ℤ value_at values 0)
