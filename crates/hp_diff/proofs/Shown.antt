-- Walks back over the edges of latest labels, with the sum of their bounds.
use Rattle.std.proofs.Common.{◌≡◌, ℕ, ◌+◌, ◌*◌, ◌^◌, ◌<◌, List, [], ◌∷◌, ◌++◌, length, refl, sym, subst, arith}
use Rattle.std.specs.Prelude.{ℤ, pos, ◌+ℤ◌, ◌≤ℤ◌, ◌<ℤ◌}
use Rattle.std.proofs.lemmas.Int.{ints}
use Rattle.hp_diff.specs.declared.edges.Edge.{Edge}
use Rattle.hp_diff.specs.inner.Labels.{edge_at, limit_of, EdgesFit}
use Rattle.hp_diff.proofs.Limits.{limit_next, limit_within}
use Rattle.hp_diff.specs.inner.Cycles.{Walk, weight, IsNegativeCycle}
use Rattle.hp_diff.proofs.Repeats.{Walk-more, weight-more}

-- after so many edges from the start
pub record IsFollowed (edges : List Edge) (nodes start node turn : ℕ) (sum : ℤ) (cycle : List ℕ) : Type 0 where
  pub node_in : node < nodes
  pub walk : Walk edges start cycle node
  pub total : sum ≡ weight edges cycle
  pub low : pos 0 ≤ℤ (sum +ℤ pos (turn * limit_of nodes))
  pub high : sum ≤ℤ pos (turn * limit_of nodes)

pub start_followed : (edges : List Edge) (nodes start : ℕ) → start < nodes → IsFollowed edges nodes start start 0 (pos 0) []
start_followed edges nodes start h = record { node_in = h; walk = refl; total = refl; low = omega (arith, ints); high = omega (arith, ints) }

pub next_followed : (edges : List Edge) (nodes start node turn : ℕ) (sum : ℤ) (cycle : List ℕ) (k : ℕ) → EdgesFit nodes edges → k < length edges → (edge_at edges k).to ≡ node
    → IsFollowed edges nodes start node turn sum cycle → (more : ℤ) → more ≡ sum +ℤ (edge_at edges k).bound → IsFollowed edges nodes start (edge_at edges k).from (turn + 1) more (cycle ++ k ∷ [])
next_followed edges nodes start node turn sum cycle k f h to p more is =
    let fits = f.each k h in
    let low = fits.low in
    let high = fits.high in
    let old_low = p.low in
    let old_high = p.high in
    let next = limit_next turn (limit_of nodes) in
    record {
      node_in = fits.from;
      walk = Walk-more edges start cycle node k p.walk h (sym to);
      total = (let e = p.total in let w = weight-more edges cycle k in omega (arith, ints));
      low = omega (arith, ints);
      high = omega (arith, ints);
    }

pub closed : (edges : List Edge) (nodes start node turn : ℕ) (sum : ℤ) (cycle : List ℕ) → IsFollowed edges nodes start node turn sum cycle → node ≡ start → sum <ℤ pos 0
    → IsNegativeCycle edges cycle
closed edges nodes start node turn sum cycle p back below = record {
  start = start;
  walk = subst (Walk edges start cycle) back p.walk;
  negative = subst (λ s. s <ℤ pos 0) p.total below;
}

pub followed_small : (edges : List Edge) (nodes start node turn : ℕ) (sum : ℤ) (cycle : List ℕ) → turn < nodes → IsFollowed edges nodes start node turn sum cycle
    → (pos 0 ≤ℤ (sum +ℤ pos (10 ^ 37))) × (sum ≤ℤ pos (10 ^ 37))
followed_small edges nodes start node turn sum cycle h p =
    let within = limit_within turn nodes (omega arith) in
    let low = p.low in
    let high = p.high in
    (omega (arith, ints), omega (arith, ints))
