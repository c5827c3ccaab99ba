-- Edges linked by their starts: each node has its last edge, and each edge the one before it from the same node. Both
-- count from 1, and 0 is for none. The lists grow and shrink at their ends alone.
use Rattle.std.specs.Prelude.{◌≡◌, ℕ, ◌+◌, ◌<◌, ◌≤◌, List, [], ◌∷◌, ◌++◌, length, slice_set}
use Rattle.std.proofs.Common.{get_or}
use Rattle.hp_diff.specs.declared.edges.Edge.{Edge}
use Rattle.hp_diff.specs.inner.Labels.{edge_at}
use Rattle.hp_diff.specs.declared.net.Net.{Net}

abbrev pub number_at : List ℕ → ℕ → ℕ
number_at numbers i = get_or numbers i 0

-- among the first `count` edges the last one from the node is that before the number `after`
pub record IsNewest (edges : List Edge) (count node after : ℕ) : Type 0 where
  pub within : after ≤ count
  pub own : (k : ℕ) → after ≡ k + 1 → (edge_at edges k).from ≡ node
  pub none : (k : ℕ) → after ≤ k → k < count → (edge_at edges k).from ≡ node → ⊥

pub record IsLinked (nodes : ℕ) (net : Net) : Type 0 where
  pub nodes_first : length net.first ≡ nodes
  pub edges_next : length net.next ≡ length net.edges
  pub first : (x : ℕ) → x < nodes → IsNewest net.edges (length net.edges) x (number_at net.first x)
  pub next : (k : ℕ) → k < length net.edges → IsNewest net.edges k (edge_at net.edges k).from (number_at net.next k)

abbrev pub with_edge : Net → Edge → Net
with_edge net e = record {
  edges = net.edges ++ e ∷ [];
  next = net.next ++ number_at net.first e.from ∷ [];
  first = slice_set net.first e.from (length net.edges + 1);
}

-- the last edge is taken off
pub record IsCut (nodes : ℕ) (old new : Net) : Type 0 where
  pub linked : IsLinked nodes new
  pub last : Edge
  pub edges : old.edges ≡ new.edges ++ last ∷ []
