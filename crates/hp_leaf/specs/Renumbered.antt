-- Evidence over some literals of a path, with the literals' own numbers and with those along the path.
use Rattle.std.specs.Prelude.{ℕ, ◌+◌, ◌-◌, ◌≤◌, List, [], ◌∷◌, map, nat_eq, slice_index_or, if◌then◌else◌}
use Rattle.hp_lit.specs.declared.literal.Lit.{Lit}
use Rattle.hp_lit.specs.declared.proof.Share.{Share}
use Rattle.hp_lit.specs.declared.proof.Step.{Step}
use Rattle.hp_lit.specs.Cycle.{IsLit, IsValidIdx}
use Rattle.hp_lit.specs.Leaf.{IsValidNum}
use Rattle.hp_lit.specs.Pointers.{IsValidPtr}

-- the n-th place, counted from 1, or 0 where there is none
abbrev pub place_at : List ℕ → ℕ → ℕ
place_at places n = if nat_eq n 0 then 0 else slice_index_or places (n - 1) 0

-- the share takes the literal that stands at the place of its own
abbrev pub renumbered_share : List ℕ → Share → Share
renumbered_share places s = record { lit = place_at places s.lit; times = s.times }

abbrev pub renumbered_shares : List ℕ → List Share → List Share
renumbered_shares places shares = map (renumbered_share places) shares

abbrev pub renumbered_step : List ℕ → Step → Step
renumbered_step places s = record { lit = place_at places s.lit; forward = s.forward }

abbrev pub renumbered_steps : List ℕ → List Step → List Step
renumbered_steps places steps = map (renumbered_step places) steps

abbrev pub renumbered_links : List ℕ → List ℕ → List ℕ
renumbered_links places links = map (place_at places) links

-- each literal stands in the path at its place, counted from 1, and the places rise strictly, from n on
abbrev pub StandsFrom : ℕ → List Lit → List Lit → List ℕ → Type 0
StandsFrom n path [] [] = Unit {0}
StandsFrom n path (l ∷ ls) (p ∷ ps) = (n ≤ p) × IsLit path p l × StandsFrom (p + 1) path ls ps
StandsFrom n path _ _ = ⊥

-- the literals stand in the path at these places, one behind the other
abbrev pub Stands : List Lit → List Lit → List ℕ → Type 0
Stands path lits places = StandsFrom 0 path lits places

-- evidence over literals of a path is evidence over the path, once each literal has its number along the path
pub record RenumberingKeepsLeaves : Type 0 where
  pub num : (path lits : List Lit) (places : List ℕ) (shares : List Share) → Stands path lits places → IsValidNum lits shares → IsValidNum path (renumbered_shares places shares)
  pub idx : (path lits : List Lit) (places : List ℕ) (steps : List Step) → Stands path lits places → IsValidIdx lits steps → IsValidIdx path (renumbered_steps places steps)
  pub ptr : (path lits : List Lit) (places : List ℕ) (ne : ℕ) (links : List ℕ) → Stands path lits places → IsValidPtr lits ne links → IsValidPtr path (place_at places ne) (renumbered_links places links)
