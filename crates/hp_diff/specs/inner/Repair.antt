-- The repair of values after an edge was added.
use Rattle.std.specs.Prelude.{◌≡◌, ◌⊎◌, ℕ, ◌<◌, ◌≤◌, ◌^◌, ℤ, pos, ◌+ℤ◌, ◌≤ℤ◌, ◌<ℤ◌, List, length}
use Rattle.hp_diff.specs.declared.edges.Edge.{Edge}
use Rattle.hp_diff.specs.inner.Labels.{edge_at}
use Rattle.hp_diff.specs.inner.Settled.{value_at}
use Rattle.hp_diff.specs.declared.repair.Work.{Work}
use Rattle.hp_diff.specs.declared.repair.Relaxed.{Relaxed}
use Rattle.hp_diff.specs.declared.repair.Relaxed.TheVariants as relaxed
use Rattle.hp_diff.specs.declared.repair.Turn.{Turn}
use Rattle.hp_diff.specs.declared.repair.Turn.TheVariants as turns
use Rattle.hp_diff.specs.inner.Net.{number_at}

-- a value for each node, from 0 down to -10^37
pub record AreWithin (nodes : ℕ) (values : List ℤ) : Type 0 where
  pub count : length values ≡ nodes
  pub low : (x : ℕ) → x < nodes → pos 0 ≤ℤ (value_at values x +ℤ pos (10 ^ 37))
  pub high : (x : ℕ) → x < nodes → value_at values x ≤ℤ pos 0

abbrev pub Holds : List Edge → List ℤ → ℕ → Type 0
Holds edges values k = value_at values (edge_at edges k).to ≤ℤ (value_at values (edge_at edges k).from +ℤ (edge_at edges k).bound)

-- what the edge gives its end is less than what it has
pub record IsFallen (edges : List Edge) (values : List ℤ) (k : ℕ) (value : ℤ) : Type 0 where
  pub is : value ≡ value_at values (edge_at edges k).from +ℤ (edge_at edges k).bound
  pub less : value <ℤ value_at values (edge_at edges k).to

-- the node waits in the queue
pub record InQueue (queue : List ℕ) (head tail x : ℕ) : Type 0 where
  pub at : ℕ
  pub low : head ≤ at
  pub high : at < tail
  pub is : number_at queue at ≡ x

-- what a repair works with, whose queue holds nodes up to `tail`
pub record IsWork (nodes : ℕ) (w : Work) (tail : ℕ) : Type 0 where
  pub draft : AreWithin nodes w.draft
  pub place : length w.place ≡ nodes
  pub parent : length w.parent ≡ nodes
  pub room : tail ≤ length w.queue
  pub queued : (i : ℕ) → i < tail → number_at w.queue i < nodes

-- the draft has other values only at nodes that were queued
abbrev pub Agrees : ℕ → List ℤ → Work → ℕ → Type 0
Agrees nodes values w tail = (x : ℕ) → x < nodes → (value_at w.draft x ≡ value_at values x) ⊎ InQueue w.queue 0 tail x

abbrev pub HoldsOrWaits : List Edge → Work → ℕ → ℕ → ℕ → Type 0
HoldsOrWaits edges w head tail k = Holds edges w.draft k ⊎ InQueue w.queue head tail (edge_at edges k).from

-- what goes on as before, and that the edges with P were seen to
pub record Goes (nodes : ℕ) (edges : List Edge) (old new : Work) (head tail more : ℕ) (P : ℕ → Type 0) : Type 0 where
  pub further : tail ≤ more
  pub work : IsWork nodes new more
  pub agree : (values : List ℤ) → Agrees nodes values old tail → Agrees nodes values new more
  pub others : (k : ℕ) → k < length edges → HoldsOrWaits edges old head tail k → HoldsOrWaits edges new head more k
  pub itself : (k : ℕ) → k < length edges → P k → HoldsOrWaits edges new head more k

-- what a node's stay in the queue needs
pub record IsQueued (old new : Work) (head tail end x : ℕ) : Type 0 where
  pub draft : new.draft ≡ old.draft
  pub parent : new.parent ≡ old.parent
  pub place : length new.place ≡ length old.place
  pub queue : length new.queue ≡ length old.queue
  pub more : tail ≤ end
  pub room : end ≤ length new.queue
  pub same : (i : ℕ) → i < tail → number_at new.queue i ≡ number_at old.queue i
  pub fresh : (i : ℕ) → tail ≤ i → i < end → number_at new.queue i ≡ x
  pub inside : InQueue new.queue head end x

abbrev pub Relaxes : ℕ → List Edge → Work → Work → ℕ → ℕ → ℕ → Relaxed → Type 0
Relaxes nodes edges old new head tail at (relaxed.Go more) = Goes nodes edges old new head tail more (λ k. k ≡ at)
Relaxes nodes edges old new head tail at relaxed.Back = new ≡ old
Relaxes nodes edges old new head tail at relaxed.Lost = new ≡ old

-- the draft agrees with the values outside of the queue, and where nothing stops the repair, the edges with P were seen to
abbrev pub Turns : ℕ → List Edge → Work → Work → ℕ → ℕ → (ℕ → Type 0) → Turn → Type 0
Turns nodes edges old new head tail P (turns.Go more) = Goes nodes edges old new head tail more P
Turns nodes edges old new head tail P (turns.Stop more back) = IsWork nodes new more × ((values : List ℤ) → Agrees nodes values old tail → Agrees nodes values new more)

-- every edge holds
abbrev pub AllHold : List Edge → List ℤ → Type 0
AllHold edges values = (k : ℕ) → k < length edges → Holds edges values k

abbrev pub Repairs : ℕ → List Edge → List ℤ → Work → Turn → Type 0
Repairs nodes edges values w (turns.Go more) = IsWork nodes w more × Agrees nodes values w more × AllHold edges w.draft
Repairs nodes edges values w (turns.Stop more back) = IsWork nodes w more × Agrees nodes values w more

abbrev pub AreSame : ℕ → List ℤ → List ℤ → Type 0
AreSame nodes xs ys = (x : ℕ) → x < nodes → value_at xs x ≡ value_at ys x
