-- All tuples over a list, in lexicographic order of the places of their entries.
use Rattle.std.specs.Prelude.{◌≡◌, ℕ, zero, suc, ◌-◌, List, [], ◌∷◌, ◌++◌, map, length, Bool, true, false}
use Rattle.std.specs.List.{flat_map}

abbrev pub behind : {X : Type 0} → List (List X) → X → List (List X)
behind tuples x = map (λ t. x ∷ t) tuples

-- those of so many entries
abbrev pub all_tuples : {X : Type 0} → List X → ℕ → List (List X)
all_tuples xs zero = [] ∷ []
all_tuples xs (suc n) = flat_map (behind (all_tuples xs n)) xs

-- ---- tuples of places
-- so many places, from this one on
abbrev pub places_from : ℕ → ℕ → List ℕ
places_from first zero = []
places_from first (suc n) = first ∷ places_from (suc first) n

-- those below a number
abbrev pub places : ℕ → List ℕ
places size = places_from 0 size

-- of the tuples of places below a number, a tuple and those after it
abbrev pub tuples_from : ℕ → List ℕ → List (List ℕ)
tuples_from size [] = [] ∷ []
tuples_from size (x ∷ xs) = behind (tuples_from size xs) x ++ flat_map (behind (all_tuples (places size) (length xs))) (places_from (suc x) (size - suc x))

-- the tuple after another one, or that there is none, and then nothing has changed
abbrev pub IsNext : ℕ → List ℕ → List ℕ → Bool → Type 0
IsNext size old new true = tuples_from size old ≡ old ∷ tuples_from size new
IsNext size old new false = (tuples_from size old ≡ old ∷ []) × (new ≡ old)
