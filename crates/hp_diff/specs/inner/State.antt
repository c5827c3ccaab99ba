-- Linked edges with values that keep them.
use Rattle.std.specs.Prelude.{◌≡◌, ℕ, ◌+◌, ◌<◌, ℤ, pos, List, [], ◌∷◌, ◌++◌, length, Option, Some, None}
use Rattle.hp_lit.specs.declared.literal.IdxLit.{IdxLit}
use Rattle.hp_lit.specs.declared.proof.Step.{Step}
use Rattle.hp_diff.specs.declared.edges.Edge.{Edge}
use Rattle.hp_diff.specs.inner.Labels.{EdgesFit}
use Rattle.hp_diff.specs.inner.Settled.{value_at}
use Rattle.hp_diff.specs.declared.state.State.{State}
use Rattle.hp_diff.specs.inner.RowEdges.{row_edges, Shows}
use Rattle.hp_diff.specs.inner.Net.{number_at, IsLinked}
use Rattle.hp_diff.specs.inner.Repair.{AllHold, AreSame, AreWithin, Holds, IsWork}

-- all but what edges hold
pub record IsBase (nodes : ℕ) (s : State) : Type 0 where
  pub linked : IsLinked nodes s.net
  pub fit : EdgesFit nodes s.net.edges
  pub work : IsWork nodes s.work 0
  pub values : AreWithin nodes s.values
  pub same : AreSame nodes s.work.draft s.values

-- between two calls: all edges hold
pub record IsState (nodes : ℕ) (s : State) : Type 0 where
  pub base : IsBase nodes s
  pub holds : AllHold s.net.edges s.values

-- all edges but the last hold
pub record IsReady (nodes : ℕ) (s : State) : Type 0 where
  pub base : IsBase nodes s
  pub some : 0 < length s.net.edges
  pub holds : (k : ℕ) → k + 1 < length s.net.edges → Holds s.net.edges s.values k

-- the edges are the same, and all but the last hold
pub record IsStill (nodes : ℕ) (old new : State) : Type 0 where
  pub ready : IsReady nodes new
  pub net : new.net ≡ old.net

abbrev pub IsDecided : ℕ → State → State → Option (List Step) → Type 0
IsDecided nodes old new None = IsState nodes new × (new.net ≡ old.net)
IsDecided nodes old new (Some steps) = IsStill nodes old new × Shows old.net.edges steps

-- the edges are added, or there is a cycle with them
abbrev pub IsAdded : ℕ → State → State → List Edge → Option (List Step) → Type 0
IsAdded nodes old new more None = IsState nodes new × (new.net.edges ≡ old.net.edges ++ more)
IsAdded nodes old new more (Some steps) = IsState nodes new × (new.net.edges ≡ old.net.edges) × Shows (old.net.edges ++ more) steps

pub record IsCutBack (nodes : ℕ) (old new : State) : Type 0 where
  pub state : IsState nodes new
  pub values : new.values ≡ old.values
  pub last : Edge
  pub edges : old.net.edges ≡ new.net.edges ++ last ∷ []

-- the last edges are those of the row
pub record EndsWith (edges : List Edge) (row : IdxLit) : Type 0 where
  pub lit : ℕ
  pub before : List Edge
  pub is : edges ≡ before ++ row_edges lit row

pub record IsRowOff (nodes : ℕ) (old new : State) (row : IdxLit) : Type 0 where
  pub state : IsState nodes new
  pub values : new.values ≡ old.values
  pub edges : (es : List Edge) (lit : ℕ) → old.net.edges ≡ es ++ row_edges lit row → new.net.edges ≡ es

pub record IsZeros (count : ℕ) (numbers : List ℕ) : Type 0 where
  pub count_is : length numbers ≡ count
  pub each : (i : ℕ) → number_at numbers i ≡ 0

pub record AreZero (count : ℕ) (values : List ℤ) : Type 0 where
  pub count_is : length values ≡ count
  pub each : (i : ℕ) → value_at values i ≡ pos 0

-- no edges, and no room
pub record IsEmpty (s : State) : Type 0 where
  pub edges : s.net.edges ≡ []
  pub values : s.values ≡ []
