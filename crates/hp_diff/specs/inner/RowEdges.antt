-- How rows are edges between numbered nodes: node 0 is for no name, and node n + 1 for the name n.
use Rattle.std.specs.Prelude.{◌≡◌, ◌⊎◌, ℕ, ◌+◌, ◌-◌, ◌≤◌, List, [], ◌∷◌, ◌++◌, map, Option, Some, None, Bool, true, false, slice_get}
use Rattle.std.specs.List.{All}
use Rattle.hp_lit.specs.declared.literal.Name.{Name}
use Rattle.hp_lit.specs.declared.literal.IdxLit.{IdxLit}
use Rattle.hp_lit.specs.declared.literal.Lit.TheVariants.{Idx}
use Rattle.hp_lit.specs.declared.proof.Step.{Step}
use Rattle.hp_lit.specs.Cycle.{turned, IsValidIdx}
use Rattle.hp_diff.specs.declared.edges.Edge.{Edge}

abbrev pub node_of : Option Name → ℕ
node_of None = 0
node_of (Some name) = name.0 + 1

-- the edge of a row with its number, as it stands or turned about
abbrev pub edge_of : ℕ → IdxLit → Bool → Edge
edge_of lit row forward = record {
  to = node_of (turned row forward).left;
  from = node_of (turned row forward).right;
  bound = (turned row forward).bound;
  lit = lit;
  forward = forward;
}

-- an equality has a second edge, turned about
abbrev pub back_edges : ℕ → IdxLit → Bool → List Edge
back_edges lit row true = edge_of lit row false ∷ []
back_edges lit row false = []

abbrev pub row_edges : ℕ → IdxLit → List Edge
row_edges lit row = edge_of lit row true ∷ back_edges lit row row.exact

-- the edges of rows, the first of which has this number
abbrev pub edges_of : ℕ → List IdxLit → List Edge
edges_of lit [] = []
edges_of lit (row ∷ rows) = row_edges lit row ++ edges_of (lit + 1) rows

-- the edge is one of the row whose number it tells
pub record IsEdgeOf (rows : List IdxLit) (e : Edge) : Type 0 where
  pub row : IdxLit
  pub lit : 1 ≤ e.lit
  pub at : slice_get rows (e.lit - 1) ≡ Some row
  pub may : (e.forward ≡ true) ⊎ (row.exact ≡ true)
  pub same : e ≡ edge_of e.lit row e.forward

-- whatever the rows are whose edges these are, the steps are a cycle of them that adds to less than 0
pub record Shows (edges : List Edge) (steps : List Step) : Type 0 where
  pub valid : (rows : List IdxLit) → All (IsEdgeOf rows) edges → IsValidIdx (map Idx rows) steps

abbrev pub ShowsIfAny : List Edge → Option (List Step) → Type 0
ShowsIfAny edges None = Unit {0}
ShowsIfAny edges (Some steps) = Shows edges steps
