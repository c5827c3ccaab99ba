-- The literals of each sort among literals of several sorts.
use Rattle.std.specs.Prelude.{List, [], ◌∷◌}
use Rattle.hp_lit.specs.declared.literal.NumLit.{NumLit}
use Rattle.hp_lit.specs.declared.literal.IdxLit.{IdxLit}
use Rattle.hp_lit.specs.declared.literal.PtrLit.{PtrLit}
use Rattle.hp_lit.specs.declared.literal.Lit.{Lit}
use Rattle.hp_lit.specs.declared.literal.Lit.TheVariants.{Num, Idx, Ptr}

-- the literals over fractions, in their order
abbrev pub num_lits : List Lit → List NumLit
num_lits [] = []
num_lits (Num l ∷ ls) = l ∷ num_lits ls
num_lits (Idx row ∷ ls) = num_lits ls
num_lits (Ptr l ∷ ls) = num_lits ls

-- the literals over whole numbers, in their order
abbrev pub idx_lits : List Lit → List IdxLit
idx_lits [] = []
idx_lits (Num l ∷ ls) = idx_lits ls
idx_lits (Idx row ∷ ls) = row ∷ idx_lits ls
idx_lits (Ptr l ∷ ls) = idx_lits ls

-- the literals over pointers, in their order
abbrev pub ptr_lits : List Lit → List PtrLit
ptr_lits [] = []
ptr_lits (Num l ∷ ls) = ptr_lits ls
ptr_lits (Idx row ∷ ls) = ptr_lits ls
ptr_lits (Ptr l ∷ ls) = l ∷ ptr_lits ls
