-- The rows of literals over fractions. Their columns are the names that occur, in rising order, and then one for t, by
-- which each bound is multiplied: so a strict literal is a row that stays under its bound by 1, and t is at least 1.
use Rattle.std.specs.Prelude.{ℕ, suc, ℤ, pos, negsuc, neg_ℤ, List, [], ◌∷◌, ◌++◌, map, length}
use Rattle.hp_lit.specs.declared.literal.Rel.{Rel}
use Rattle.hp_lit.specs.declared.literal.Rel.TheVariants.{Le, Lt, Eq}
use Rattle.hp_lit.specs.declared.literal.NumLit.{NumLit}
use Rattle.hp_lit.specs.Leaf.{coefficient}
use Rattle.hp_rows.specs.declared.row.Row.{Row}
use Rattle.hp_descent.specs.Columns.{columns}

-- -t <= -1
abbrev pub scale_row : List ℕ → Row
scale_row names = record { coefs = map (λ n. pos 0) names ++ negsuc 0 ∷ []; bound = negsuc 0 }

-- a.x - b*t <= most, for the left side a.x and the bound b of a literal
abbrev pub forward_row : List ℕ → NumLit → ℤ → Row
forward_row names l most = record { coefs = map (λ n. coefficient n l.parts) names ++ neg_ℤ l.bound ∷ []; bound = most }

-- -a.x + b*t <= 0
abbrev pub backward_row : List ℕ → NumLit → Row
backward_row names l = record { coefs = map (λ n. neg_ℤ (coefficient n l.parts)) names ++ l.bound ∷ []; bound = pos 0 }

-- a.x <= b as a.x - b*t <= 0; a.x < b as a.x - b*t <= -1; a.x = b as a.x - b*t <= 0 and then -a.x + b*t <= 0
abbrev pub rows_by : Rel → List ℕ → NumLit → List Row
rows_by Le names l = forward_row names l (pos 0) ∷ []
rows_by Lt names l = forward_row names l (negsuc 0) ∷ []
rows_by Eq names l = forward_row names l (pos 0) ∷ backward_row names l ∷ []

-- the rows of each literal in turn
abbrev pub rows_over : List ℕ → List NumLit → List Row
rows_over names [] = []
rows_over names (l ∷ ls) = rows_by l.rel names l ++ rows_over names ls

-- the row of t, and then the rows of the literals
abbrev pub rows_of : List NumLit → List Row
rows_of lits = scale_row (columns lits) ∷ rows_over (columns lits) lits

-- how many columns they have
abbrev pub width_of : List NumLit → ℕ
width_of lits = suc (length (columns lits))
