-- The literals of a path by their sorts, each with its number along the path.
use Rattle.std.specs.Prelude.{◌≡◌, ℕ, ◌+◌, List, [], ◌∷◌}
use Rattle.hp_lit.specs.declared.literal.Lit.{Lit}
use Rattle.hp_lit.specs.declared.literal.Lit.TheVariants.{Num, Idx, Ptr}
use Rattle.hp_path.specs.declared.parting.Parts.{Parts}
use Rattle.hp_path.specs.Kinds.{num_lits, idx_lits, ptr_lits}

-- the numbers of the literals over fractions, where the first literal has the number n
abbrev pub num_places : ℕ → List Lit → List ℕ
num_places n [] = []
num_places n (Num l ∷ ls) = n ∷ num_places (n + 1) ls
num_places n (Idx row ∷ ls) = num_places (n + 1) ls
num_places n (Ptr l ∷ ls) = num_places (n + 1) ls

-- the numbers of the literals over whole numbers, where the first literal has the number n
abbrev pub idx_places : ℕ → List Lit → List ℕ
idx_places n [] = []
idx_places n (Num l ∷ ls) = idx_places (n + 1) ls
idx_places n (Idx row ∷ ls) = n ∷ idx_places (n + 1) ls
idx_places n (Ptr l ∷ ls) = idx_places (n + 1) ls

-- the numbers of the literals over pointers, where the first literal has the number n
abbrev pub ptr_places : ℕ → List Lit → List ℕ
ptr_places n [] = []
ptr_places n (Num l ∷ ls) = ptr_places (n + 1) ls
ptr_places n (Idx row ∷ ls) = ptr_places (n + 1) ls
ptr_places n (Ptr l ∷ ls) = n ∷ ptr_places (n + 1) ls

-- the literals of each sort in their order, and their numbers, which count from 1
pub record AreParts (lits : List Lit) (p : Parts) : Type 0 where
  pub rows : p.rows ≡ idx_lits lits
  pub row_places : p.row_places ≡ idx_places 1 lits
  pub nums : p.nums ≡ num_lits lits
  pub num_places : p.num_places ≡ num_places 1 lits
  pub pairs : p.pairs ≡ ptr_lits lits
  pub pair_places : p.pair_places ≡ ptr_places 1 lits
