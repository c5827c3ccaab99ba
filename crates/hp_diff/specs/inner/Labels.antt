-- Labels: what walks along edges give the nodes.
use Rattle.std.specs.Prelude.{◌≡◌, ◌⊎◌, Bool, true, false, ℕ, ◌+◌, ◌-◌, ◌*◌, ◌/◌, ◌<◌, ◌≤◌, pos, ◌+ℤ◌, ◌≤ℤ◌, ◌<ℤ◌, List, ◌∷◌, [], ◌++◌, length, slice_set}
use Rattle.std.proofs.Common.{get_or}
use Rattle.hp_tree.specs.Limits.{largest_value}
use Rattle.hp_diff.specs.declared.edges.Edge.{Edge}
use Rattle.hp_diff.specs.declared.labels.Label.{Label}
use Rattle.hp_diff.specs.declared.labels.Labels.{Labels}
use Rattle.hp_diff.specs.declared.labels.Round.{Round}
use Rattle.hp_diff.specs.declared.labels.Round.TheVariants as rounds
use Rattle.hp_diff.specs.declared.labels.Relaxed.{Relaxed}
use Rattle.hp_diff.specs.declared.labels.Relaxed.TheVariants.{Kept, Made, Deep}

abbrev pub label_at : List Label → ℕ → Label
label_at labels i = get_or labels i (record { node = 0; value = pos 0; depth = 0; prev = 0; edge = 0 })

abbrev pub edge_at : List Edge → ℕ → Edge
edge_at edges k = get_or edges k (record { to = 0; from = 0; bound = pos 0; lit = 0; forward = false })

-- the label that a node has now
abbrev pub now_at : Labels → ℕ → Label
now_at labels x = label_at labels.made (get_or labels.latest x 0)

-- one label more, which is then its node's latest
abbrev pub with_label : Labels → Label → Labels
with_label labels l = record { made = labels.made ++ l ∷ []; latest = slice_set labels.latest l.node (length labels.made) }

-- the greatest magnitude of bounds with which no walk over all nodes passes 10^37
unfoldable pub limit_of : ℕ → ℕ
limit_of nodes = largest_value / nodes

-- an edge between nodes, its bound of such a magnitude at most
pub record EdgeFits (nodes : ℕ) (e : Edge) : Type 0 where
  pub to : e.to < nodes
  pub from : e.from < nodes
  pub low : pos 0 ≤ℤ (e.bound +ℤ pos (limit_of nodes))
  pub high : e.bound ≤ℤ pos (limit_of nodes)

pub record EdgesFit (nodes : ℕ) (edges : List Edge) : Type 0 where
  pub each : (k : ℕ) → k < length edges → EdgeFits nodes (edge_at edges k)

-- a label that goes on from an earlier one, p, over an edge
pub record GoesOn (e : Edge) (p l : Label) : Type 0 where
  pub to : l.node ≡ e.to
  pub from : p.node ≡ e.from
  pub value : l.value ≡ p.value +ℤ e.bound
  pub depth : l.depth ≡ p.depth + 1

-- label number i, which is a root or goes on from an earlier one
pub record IsLabel (edges : List Edge) (nodes : ℕ) (labels : List Label) (i : ℕ) (l : Label) : Type 0 where
  pub node : l.node < nodes
  pub low : pos 0 ≤ℤ (l.value +ℤ pos (l.depth * limit_of nodes))
  pub high : l.value ≤ℤ pos 0
  pub made : 0 < l.depth → (l.prev < i) × (l.edge < length edges) × GoesOn (edge_at edges l.edge) (label_at labels l.prev) l

-- each label is made right, and the values of one node fall
pub record AreLabels (edges : List Edge) (nodes : ℕ) (labels : List Label) : Type 0 where
  pub each : (i : ℕ) → i < length labels → IsLabel edges nodes labels i (label_at labels i)
  pub falls : (i j : ℕ) → i < j → j < length labels → (label_at labels i).node ≡ (label_at labels j).node → (label_at labels j).value <ℤ (label_at labels i).value

pub record AreLatest (nodes : ℕ) (labels : Labels) : Type 0 where
  pub count : length labels.latest ≡ nodes
  pub within : (x : ℕ) → x < nodes → get_or labels.latest x 0 < length labels.made
  pub own : (x : ℕ) → x < nodes → (now_at labels x).node ≡ x
  pub last : (i : ℕ) → i < length labels.made → i ≤ get_or labels.latest (label_at labels.made i).node 0

pub record AreShallow (nodes : ℕ) (labels : List Label) : Type 0 where
  pub each : (i : ℕ) → i < length labels → (label_at labels i).depth < nodes

abbrev pub Holds : List Edge → Labels → ℕ → Type 0
Holds edges labels k = (now_at labels (edge_at edges k).to).value ≤ℤ ((now_at labels (edge_at edges k).from).value +ℤ (edge_at edges k).bound)

-- the edge holds, or what its `from` has now is at least so deep
abbrev pub HoldsOrDeep : List Edge → Labels → ℕ → ℕ → Type 0
HoldsOrDeep edges labels depth k = Holds edges labels k ⊎ (depth ≤ (now_at labels (edge_at edges k).from).depth)

-- the label that an edge gives its `to`, whose value falls
pub record IsNext (edges : List Edge) (s : Labels) (at : ℕ) (l : Label) : Type 0 where
  pub node : l.node ≡ (edge_at edges at).to
  pub prev : l.prev ≡ get_or s.latest (edge_at edges at).from 0
  pub edge : l.edge ≡ at
  pub value : l.value ≡ (now_at s (edge_at edges at).from).value +ℤ (edge_at edges at).bound
  pub depth : l.depth ≡ (now_at s (edge_at edges at).from).depth + 1
  pub less : l.value <ℤ (now_at s (edge_at edges at).to).value

-- After a turn at an edge whose start was as deep as that, the edge holds or its start is one deeper, and what
-- was so of the others is still so.
pub record Deepens (edges : List Edge) (old new : Labels) (at : ℕ) : Type 0 where
  pub itself : (depth : ℕ) → HoldsOrDeep edges old depth at → HoldsOrDeep edges new (depth + 1) at
  pub others : (depth more k : ℕ) → k < length edges → more ≤ depth + 1 → HoldsOrDeep edges old depth at → HoldsOrDeep edges old more k → HoldsOrDeep edges new more k

-- what a relaxation of an edge did
abbrev pub Turn : List Edge → ℕ → Labels → Labels → ℕ → Relaxed → Type 0
Turn edges nodes old new at Kept = (new ≡ old) × Holds edges new at
Turn edges nodes old new at Made = AreShallow nodes new.made × Deepens edges old new at
Turn edges nodes old new at Deep = (length old.made + 1 ≡ length new.made) × (nodes ≤ (label_at new.made (length old.made)).depth)

-- the label of a node that no edge has lowered
abbrev pub root : ℕ → Label
root x = record { node = x; value = pos 0; depth = 0; prev = 0; edge = 0 }

pub record AreRoots (nodes : ℕ) (s : Labels) : Type 0 where
  pub made : length s.made ≡ nodes
  pub latest : length s.latest ≡ nodes
  pub label : (x : ℕ) → x < nodes → label_at s.made x ≡ root x
  pub own : (x : ℕ) → x < nodes → get_or s.latest x 0 ≡ x

-- The edge of a turn of a round: edges in order, or from the last to the first.
abbrev pub turn_at : ℕ → Bool → ℕ → ℕ
turn_at count false k = k
turn_at count true k = count - 1 - k

-- Before the turn `at` of a round: each edge holds or starts deep, one deeper where it was relaxed in this round,
-- and where nothing was changed those hold.
pub record IsRound (edges : List Edge) (nodes : ℕ) (s : Labels) (backward : Bool) (at depth : ℕ) (changed : Bool) : Type 0 where
  pub labels : AreLabels edges nodes s.made
  pub latest : AreLatest nodes s
  pub shallow : AreShallow nodes s.made
  pub done : (k : ℕ) → k < at → HoldsOrDeep edges s (depth + 1) (turn_at (length edges) backward k)
  pub all : (k : ℕ) → k < length edges → HoldsOrDeep edges s depth k
  pub quiet : changed ≡ false → (k : ℕ) → k < at → Holds edges s (turn_at (length edges) backward k)

-- what a round over all edges found
abbrev pub Found : List Edge → ℕ → Labels → ℕ → Round → Type 0
Found edges nodes s depth rounds.Settled = AreShallow nodes s.made × ((k : ℕ) → k < length edges → Holds edges s k)
Found edges nodes s depth rounds.Changed = IsRound edges nodes s false 0 (depth + 1) false
Found edges nodes s depth rounds.Deep = (0 < length s.made) × (nodes ≤ (label_at s.made (length s.made - 1)).depth)
