-- The applications of each function, by the places of their definitions, counted from 0.
use Rattle.std.specs.Prelude.{◌≡◌, ℕ, suc, ◌<◌, List, [], ◌∷◌, ◌++◌, length, map, nat_eq, if◌then◌else◌, Option, Some, None, slice_index_or, slice_set}
use Rattle.hp_lit.specs.declared.line.Body.{Body}
use Rattle.hp_lit.specs.declared.line.Body.TheVariants.{Apply, Sum}
use Rattle.hp_lit.specs.declared.line.Def.{Def}

-- the function that a body applies
abbrev pub applied : Body → Option ℕ
applied (Apply func args) = Some func
applied (Sum lin) = None

abbrev pub body_place : ℕ → ℕ → Body → List ℕ
body_place func at (Apply g args) = if nat_eq g func then at ∷ [] else []
body_place func at (Sum lin) = []

-- the places of the applications of a function
abbrev pub places : ℕ → List Def → List ℕ
places func [] = []
places func (d ∷ ds) = body_place func 0 d.body ++ map suc (places func ds)

-- the places of the applications of each of so many functions
pub record AreByFunction (count : ℕ) (ds : List Def) (groups : List (List ℕ)) : Type 0 where
  pub many : length groups ≡ count
  pub each : (func : ℕ) → func < count → slice_index_or groups func [] ≡ places func ds

-- with one place more of a function, where it is one of them
abbrev pub with_place : List (List ℕ) → ℕ → Option ℕ → List (List ℕ)
with_place groups at None = groups
with_place groups at (Some func) = slice_set groups func (slice_index_or groups func [] ++ at ∷ [])
