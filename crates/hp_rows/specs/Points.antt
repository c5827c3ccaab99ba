-- The point of a chain: back substitution into its reduced equations, the last of which stands first.
use Rattle.std.specs.Prelude.{◌≡◌, ◌<◌, ℕ, pos, Result, Ok, List, [], ◌∷◌, length, get_or, set, take, replicate}
use Rattle.hp_math.specs.Rational.{ℚ, whole}
use Rattle.hp_num.specs.declared.wide.Wide.{Wide}
use Rattle.hp_num.specs.Wide.{◌>>=◌, mul_of, add_of, sub_of, div_of}
use Rattle.hp_rows.specs.declared.row.Row.{Row}
use Rattle.hp_rows.specs.Rows.{Values, IsChain}
use Rattle.hp_rows.specs.Lines.{Line, entry, pivot, equations}

-- the values of the columns at a point
abbrev pub at_point : List ℚ → Values
at_point xs k = get_or xs k (whole (pos 0))

-- what is left of a number when the products of coefficient and value are taken from it in column order
abbrev pub rest_of : ℚ → Line → List ℚ → Result ℚ Wide
rest_of rest cs [] = Ok rest
rest_of rest [] (x ∷ xs) = Ok rest
rest_of rest (c ∷ cs) (x ∷ xs) = mul_of (whole c) x >>= λ y. sub_of rest y >>= λ a. rest_of a cs xs

-- the coordinate at the pivot of g: the bound less the other products, over the entry at the pivot; the point is still
-- 0 there, so its product, which is 0, takes nothing away
abbrev pub coordinate : Line → List ℚ → Result ℚ Wide
coordinate g xs = rest_of (whole (entry g (length xs))) g xs >>= λ a. div_of a (whole (entry g (pivot g)))

-- the coordinates at the pivots, the last equation's first
abbrev pub solve : List Line → List ℚ → Result (List ℚ) Wide
solve [] xs = Ok xs
solve (g ∷ gs) xs = coordinate g xs >>= λ y. solve gs (set xs (pivot g) y)

abbrev pub zeros : ℕ → List ℚ
zeros w = replicate w (whole (pos 0))

-- the point of these equations, 0 at the columns without a pivot
abbrev pub point_of : ℕ → List Line → Result (List ℚ) Wide
point_of w gs = solve gs (zeros w)

-- a sum with the products of coefficient and value added to it in column order
abbrev pub left_of : ℚ → Line → List ℚ → Result ℚ Wide
left_of sum cs [] = Ok sum
left_of sum [] (x ∷ xs) = Ok sum
left_of sum (c ∷ cs) (x ∷ xs) = mul_of (whole c) x >>= λ y. add_of sum y >>= λ a. left_of a cs xs

-- numbers over t, in their order
abbrev pub quotients : ℚ → List ℚ → Result (List ℚ) Wide
quotients t [] = Ok []
quotients t (x ∷ xs) = div_of x t >>= λ y. quotients t xs >>= λ ys. Ok (y ∷ ys)

-- the values that a point of homogeneous rows gives: each coordinate before column t, over the one at t
abbrev pub values_of : ℕ → List ℚ → Result (List ℚ) Wide
values_of t xs = quotients (at_point xs t) (take t xs)

-- lines from which a point of this width can be computed
abbrev pub PointFit : ℕ → List Line → Type 0
PointFit w lines = (k : ℕ) → k < length lines → (pivot (get_or lines k []) < w) × (w < length (get_or lines k []))

-- each of these lines has a pivot among the columns
unfoldable pub HavePivots : ℕ → List Line → Type 0
HavePivots w [] = Unit {0}
HavePivots w (g ∷ gs) = (pivot g < w) × HavePivots w gs

-- the point of this chain, its last row first: no number passes on the way to it
pub record IsPointOf (rows : List Row) (w : ℕ) (chain : List ℕ) (point : List ℚ) : Type 0 where
  pub is_chain : IsChain rows chain
  pub lines : List Line
  pub made : equations rows chain ≡ Ok lines
  pub pivots : HavePivots w lines
  pub solved : point_of w lines ≡ Ok point
