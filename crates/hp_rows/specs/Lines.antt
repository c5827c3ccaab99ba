-- Elimination: a line is the coefficients of a row, its bound, and the multipliers of all rows, one after the other.
use Rattle.std.specs.Prelude.{◌≡◌, ℕ, zero, suc, ◌<◌, ℤ, pos, Result, Ok, if◌then◌else◌, nat_eq, unsigned_abs, List, [], ◌∷◌, ◌++◌, length, get_or, map}
use Rattle.hp_num.specs.declared.wide.Wide.{Wide}
use Rattle.hp_num.specs.Divisor.{gcd}
use Rattle.hp_num.specs.Wide.{◌>>=◌, mul_sub_of}
use Rattle.hp_rows.specs.declared.row.Row.{Row}
use Rattle.hp_rows.specs.Rows.{row_at}
use Rattle.hp_rows.specs.Arithmetic.{is_nothing, over, signed_by}

abbrev pub Line : Type 0
Line = List ℤ

-- an entry by its place, counted from 0
abbrev pub entry : Line → ℕ → ℤ
entry line k = get_or line k (pos 0)

-- n multipliers, 1 at j and else 0
abbrev pub marks : ℕ → ℕ → List ℤ
marks zero j = []
marks (suc n) j = marks n j ++ (if nat_eq n j then pos 1 else pos 0) ∷ []

-- the line of a row before any elimination: its multiplier is 1 at itself
abbrev pub line_of : List Row → ℕ → Line
line_of rows j = (row_at rows j).coefs ++ ((row_at rows j).bound ∷ marks (length rows) j)

-- the first place that is not 0
abbrev pub pivot : Line → ℕ
pivot [] = 0
pivot (z ∷ zs) = if is_nothing z then suc (pivot zs) else 0

-- d*row - c*g, entry by entry
abbrev pub subtract : ℤ → Line → ℤ → Line → Result Line Wide
subtract d [] c gs = Ok []
subtract d (r ∷ rs) c [] = Ok []
subtract d (r ∷ rs) c (g ∷ gs) = mul_sub_of d r c g >>= λ z. subtract d rs c gs >>= λ zs. Ok (z ∷ zs)

-- the greatest common divisor of d and all entries
abbrev pub gcd_from : ℕ → Line → ℕ
gcd_from d [] = d
gcd_from d (z ∷ zs) = gcd_from (gcd d (unsigned_abs z)) zs

-- the line over the greatest common divisor of its entries
abbrev pub divided : Line → Line
divided line = map (λ z. over z (gcd_from 0 line)) line

-- how many times the row is taken to clear it at the pivot of g: where g has v and the row has w, |v| over their
-- greatest common divisor
abbrev pub row_share : Line → Line → ℤ
row_share g row = over (pos (unsigned_abs (entry g (pivot g)))) (gcd (unsigned_abs (entry g (pivot g))) (unsigned_abs (entry row (pivot g))))

-- how many times g is then taken away: w over the greatest common divisor, the sign of v taken in
abbrev pub line_share : Line → Line → ℤ
line_share g row = signed_by (entry g (pivot g)) (over (entry row (pivot g)) (gcd (unsigned_abs (entry g (pivot g))) (unsigned_abs (entry row (pivot g)))))

-- the row cleared at the pivot of g, and divided by the greatest common divisor of its entries
abbrev pub clear : Line → Line → Result Line Wide
clear g row = if is_nothing (entry row (pivot g)) then Ok row else (subtract (row_share g row) row (line_share g row) g >>= λ line. Ok (divided line))

-- the row cleared at the pivots of the equations in turn, the last of which stands first
abbrev pub reduce : List Line → Line → Result Line Wide
reduce [] row = Ok row
reduce (g ∷ gs) row = reduce gs row >>= λ line. clear g line

-- the reduced equations of a chain, both with their last row first
abbrev pub equations : List Row → List ℕ → Result (List Line) Wide
equations rows [] = Ok []
equations rows (e ∷ es) = equations rows es >>= λ gs. reduce gs (line_of rows e) >>= λ g. Ok (g ∷ gs)

-- lines of one length, each with a pivot
abbrev pub LinesFit : ℕ → List Line → Type 0
LinesFit n lines = (k : ℕ) → k < length lines → (length (get_or lines k []) ≡ n) × (pivot (get_or lines k []) < n)
