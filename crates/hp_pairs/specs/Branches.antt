-- The cases of functions as the rules read them, and the pairs of which no values may meet all rows.
use Rattle.std.specs.Prelude.{ℕ, zero, suc, List, [], ◌∷◌, ◌++◌, map, nat_lt, nat_eq, if◌then◌else◌, Option, Some}
use Rattle.std.specs.List.{filter}
use Rattle.hp_lit.specs.declared.literal.NumLit.{NumLit}
use Rattle.hp_pairs.specs.declared.branch.Given.{Given}
use Rattle.hp_pairs.specs.declared.branch.Branch.{Branch}

-- rows that no values may all make true: by this rule, of the later of these clauses with the other one, of a function of so many arguments
pub record Pair : Type 0 where
  pub rule : ℕ
  pub clause : ℕ
  pub other : ℕ
  pub args : ℕ
  pub rows : List NumLit

abbrev pub greater : ℕ → ℕ → ℕ
greater m n = if nat_lt m n then n else m

abbrev pub lesser : ℕ → ℕ → ℕ
lesser m n = if nat_lt m n then m else n

-- ---- a case
-- where two clauses give its bounds, the guard with the upper bound below the lower one
abbrev pub order_pairs : Branch → Option Given → Option Given → Option NumLit → List Pair
order_pairs b (Some low) (Some high) (Some gap) =
    record { rule = 9; clause = greater low.clause high.clause; other = lesser low.clause high.clause; args = b.args; rows = b.rows ++ gap ∷ [] } ∷ []
order_pairs b low high gap = []

-- the guards of an earlier case and of this one
abbrev pub overlap : Branch → Branch → Pair
overlap b earlier = record { rule = 8; clause = greater b.clause earlier.clause; other = lesser b.clause earlier.clause; args = b.args; rows = earlier.rows ++ b.rows }

abbrev pub branch_pairs : List Branch → Branch → List Pair
branch_pairs earlier b = order_pairs b b.low b.high b.gap ++ map (overlap b) earlier

-- ---- the cases of a function
-- those that follow these
abbrev pub pairs_behind : List Branch → List Branch → List Pair
pairs_behind earlier [] = []
pairs_behind earlier (b ∷ bs) = branch_pairs earlier b ++ pairs_behind (earlier ++ b ∷ []) bs

-- those of the function at a place in the order of declarations, counted from 0
abbrev pub branches_of : ℕ → List Branch → List Branch
branches_of func branches = filter (λ b. nat_eq b.func func) branches

-- ---- all cases
-- the pairs of so many functions from this place on, function by function
abbrev pub pairs_from : List Branch → ℕ → ℕ → List Pair
pairs_from branches func zero = []
pairs_from branches func (suc count) = pairs_behind [] (branches_of func branches) ++ pairs_from branches (suc func) count
