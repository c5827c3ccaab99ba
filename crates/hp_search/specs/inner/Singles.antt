-- Lines of one literal.
use Rattle.std.specs.Prelude.{◌≡◌, ℕ, suc, ◌-◌, ◌≤◌, List, [], ◌∷◌, length, map, Option, Some, None, slice_get}
use Rattle.std.specs.List.{All}
use Rattle.hp_lit.specs.declared.line.Line.{Line}
use Rattle.hp_lit.specs.declared.proof.Choice.{Choice}
use Rattle.hp_lit.specs.declared.proof.Share.{Share}
use Rattle.hp_lit.specs.declared.proof.Step.{Step}
use Rattle.hp_leaf.specs.declared.tree.LeafProof.{LeafProof}
use Rattle.hp_leaf.specs.declared.tree.LeafProof.TheVariants.{Num, Idx, Ptr}
use Rattle.hp_leaf.specs.declared.tree.Node.{Node}
use Rattle.hp_leaf.specs.declared.tree.Node.TheVariants.{Split}
use Rattle.hp_leaf.specs.Tree.{lits_at, IsLine}

-- the only literal of a line
pub record IsSingleOf (lines : List Line) (c : Choice) : Type 0 where
  pub within : IsLine lines c.line
  pub only : length (lits_at lines c.line) ≡ 1
  pub first : c.lit ≡ 1

pub record AreSinglesOf (lines : List Line) (singles : List Choice) : Type 0 where
  pub each : All (IsSingleOf lines) singles
  pub few : length singles ≤ length lines

-- ---- leaves over the first literals
abbrev pub IsLeafWithin : ℕ → LeafProof → Type 0
IsLeafWithin count (Num shares) = All (λ s. s.lit ≤ count) shares
IsLeafWithin count (Idx steps) = All (λ s. s.lit ≤ count) steps
IsLeafWithin count (Ptr ne links) = (ne ≤ count) × All (λ link. link ≤ count) links

-- ---- the tree that closes lines of one literal
abbrev pub line_in : Option Choice → ℕ
line_in None = 0
line_in (Some c) = c.line

-- the line of a literal, both counted from 1
abbrev pub line_at : List Choice → ℕ → ℕ
line_at singles n = line_in (slice_get singles (n - 1))

abbrev pub lines_of_steps : List Choice → List Step → List ℕ
lines_of_steps singles steps = map (λ s. line_at singles s.lit) steps

abbrev pub lines_of_shares : List Choice → List Share → List ℕ
lines_of_shares singles shares = map (λ s. line_at singles s.lit) shares

abbrev pub lines_of_links : List Choice → List ℕ → List ℕ
lines_of_links singles links = map (line_at singles) links

abbrev pub splits_of : List ℕ → List Node
splits_of lines = map Split lines

-- the same steps, over literals in the order of the steps
abbrev pub steps_in_order : ℕ → List Step → List Step
steps_in_order n [] = []
steps_in_order n (s ∷ ss) = record { lit = suc n; forward = s.forward } ∷ steps_in_order (suc n) ss

-- the same shares, over literals in the order of the shares
abbrev pub shares_in_order : ℕ → List Share → List Share
shares_in_order n [] = []
shares_in_order n (s ∷ ss) = record { lit = suc n; times = s.times } ∷ shares_in_order (suc n) ss

-- as many equalities, over literals in their order
abbrev pub links_in_order : ℕ → List ℕ → List ℕ
links_in_order n [] = []
links_in_order n (l ∷ ls) = suc n ∷ links_in_order (suc n) ls
