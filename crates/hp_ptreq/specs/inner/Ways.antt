-- Ways from node to node over joins, and the search for one.
use Rattle.std.specs.Prelude.{◌≡◌, ℕ, ◌+◌, ◌<◌, ◌⊎◌, min, List, [], ◌∷◌, length}
use Rattle.std.specs.List.{sum_by}
use Rattle.std.proofs.Common.{get_or}
use Rattle.hp_ptreq.specs.declared.classes.Join.{Join}
use Rattle.hp_ptreq.specs.declared.ways.Met.{Met}
use Rattle.hp_ptreq.specs.declared.ways.Search.{Search}
use Rattle.hp_ptreq.specs.inner.Classes.{join_at}

-- the join leads from a to b, in either direction
abbrev pub HasEnds : Join → ℕ → ℕ → Type 0
HasEnds j a b = ((j.left ≡ a) × (j.right ≡ b)) ⊎ ((j.right ≡ a) × (j.left ≡ b))

-- one of the joins has this row's number and leads from a to b
pub record IsHop (joins : List Join) (lit a b : ℕ) : Type 0 where
  pub number : ℕ
  pub within : number < length joins
  pub is : (join_at joins number).lit ≡ lit
  pub ends : HasEnds (join_at joins number) a b

-- joins with these rows' numbers lead from a to b
abbrev pub Way : List Join → ℕ → List ℕ → ℕ → Type 0
Way joins a [] b = a ≡ b
Way joins a (n ∷ ns) b = (c : ℕ) × IsHop joins n a c × Way joins c ns b

-- the join is between nodes
pub record IsWithin (nodes : ℕ) (j : Join) : Type 0 where
  pub left : j.left < nodes
  pub right : j.right < nodes

abbrev pub met_at : List Met → ℕ → Met
met_at met i = get_or met i (record { node = 0; lit = 0; from = 0 })

-- 0 where the node wasn't met, and one more than the number of its meeting where it was
abbrev pub mark_at : Search → ℕ → ℕ
mark_at s x = get_or s.marks x 0

-- 1 where the node was met, and 0 where it wasn't
abbrev pub seen : Search → ℕ → ℕ
seen s x = min (mark_at s x) 1

-- how many nodes were met
abbrev pub seen_count : Search → ℕ
seen_count s = sum_by (λ m. min m 1) s.marks

-- each meeting but the first goes over a join from an earlier one
pub record IsMet (joins : List Join) (met : List Met) (i : ℕ) : Type 0 where
  pub earlier : (met_at met i).from < i
  pub hop : IsHop joins (met_at met i).lit (met_at met i).node (met_at met (met_at met i).from).node

-- what a search from a node has met
pub record AreMet (joins : List Join) (nodes start : ℕ) (s : Search) : Type 0 where
  pub count : length s.marks ≡ nodes
  pub some : 0 < length s.met
  pub first : (met_at s.met 0).node ≡ start
  pub each : (i : ℕ) → 0 < i → i < length s.met → IsMet joins s.met i
  pub marked : (x p : ℕ) → x < nodes → mark_at s x ≡ p + 1 → (p < length s.met) × ((met_at s.met p).node ≡ x)
  pub begun : 0 < mark_at s start

-- more nodes were met, or none of the first joins leads from a node that was met to one that wasn't
abbrev pub Spreads : List Join → Search → Search → ℕ → Type 0
Spreads joins old new at = (seen_count old < seen_count new) ⊎ ((new ≡ old) × ((k : ℕ) → k < at → seen new (join_at joins k).left ≡ seen new (join_at joins k).right))

-- more nodes were met, or this join doesn't lead from a node that was met to one that wasn't
abbrev pub Steps : List Join → Search → Search → ℕ → Type 0
Steps joins old new at = (seen_count old < seen_count new) ⊎ ((new ≡ old) × (seen new (join_at joins at).left ≡ seen new (join_at joins at).right))

-- one node more was met
pub record MeetsOne (joins : List Join) (nodes start : ℕ) (old new : Search) : Type 0 where
  pub met : AreMet joins nodes start new
  pub more : seen_count old < seen_count new
