-- A linear form over whole numbers without a common divisor, in proportion to one over fractions.
use Rattle.std.specs.Prelude.{ℕ, ◌<◌, ◌*◌, ◌/◌, ◌^◌, ◌==◌, List, [], ◌∷◌, map, ℤ, pos, int_div, Ok, Err, unsigned_abs, if◌then◌else◌, nat_lt}
use Rattle.std.specs.List.{All}
use Rattle.hp_math.specs.Rational.{ℚ}
use Rattle.hp_num.specs.Wide.{times_of, ◌>>=◌}
use Rattle.hp_num.specs.Divisor.{gcd}
use Rattle.hp_lit.specs.declared.literal.Name.{Name}
use Rattle.hp_lit.specs.declared.literal.Part.{Part}
use Rattle.hp_lit.specs.declared.line.LinPart.{LinPart}
use Rattle.hp_lit.specs.declared.line.Lin.{Lin}
use Rattle.hp_lit.specs.declared.refusal.Refusal.TheVariants.{Wide}
use Rattle.hp_linear.specs.declared.wholes.Row.{Row}
use Rattle.hp_linear.specs.Steps.{Refusable, behind, unless_wide}

-- ---- one denominator
-- the least common multiple
abbrev pub lcm_of : ℕ → ℕ → Refusable ℕ
lcm_of m d = if nat_lt (m / gcd m d * d) (2 ^ 127) then Ok (m / gcd m d * d) else Err Wide

-- the least common multiple so far, and those of the coefficients that follow
abbrev pub multiple_of : ℕ → List LinPart → Refusable ℕ
multiple_of m [] = Ok m
multiple_of m (s ∷ ss) = lcm_of m s.coef.den >>= λ n. multiple_of n ss

-- the least common multiple of the denominators, that of the constant last
abbrev pub denominator_of : Lin → Refusable ℕ
denominator_of f = multiple_of 1 f.parts >>= λ m. lcm_of m f.rest.den

-- ---- whole numbers
abbrev pub whole_copies : Name → ℤ → Part
whole_copies name coef = record { name = name; coef = coef }

abbrev pub row_with : List Part → ℤ → Row
row_with parts constant = record { parts = parts; constant = constant }

-- so many copies of a fraction whose denominator divides their number
abbrev pub scaled_number : ℕ → ℚ → Refusable ℤ
scaled_number m q = unless_wide (times_of q.num (pos (m / q.den)))

abbrev pub scaled_parts : ℕ → List LinPart → Refusable (List Part)
scaled_parts m [] = Ok []
scaled_parts m (s ∷ ss) = scaled_number m s.coef >>= λ n. behind (whole_copies s.name n ∷ []) (scaled_parts m ss)

abbrev pub scaled_row : ℕ → Lin → Refusable Row
scaled_row m f = scaled_parts m f.parts >>= λ parts. scaled_number m f.rest >>= λ constant. Ok (row_with parts constant)

-- a magnitude of at most 2^127 - 1
abbrev pub IsNarrowPart : Part → Type 0
IsNarrowPart p = unsigned_abs p.coef < 2 ^ 127

pub record IsNarrowRow (r : Row) : Type 0 where
  pub parts : All IsNarrowPart r.parts
  pub constant : unsigned_abs r.constant < 2 ^ 127

-- ---- without a common divisor
abbrev pub parts_divisor : ℕ → List Part → ℕ
parts_divisor g [] = g
parts_divisor g (p ∷ ps) = parts_divisor (gcd g (unsigned_abs p.coef)) ps

-- the greatest common divisor of all numbers, 0 where all of them are 0
abbrev pub row_divisor : Row → ℕ
row_divisor r = gcd (parts_divisor 0 r.parts) (unsigned_abs r.constant)

abbrev pub one_if_zero : ℕ → ℕ
one_if_zero n = if n == 0 then 1 else n

abbrev pub over : ℕ → Part → Part
over g p = whole_copies p.name (int_div p.coef (pos g))

abbrev pub row_over : ℕ → Row → Row
row_over g r = row_with (map (over g) r.parts) (int_div r.constant (pos g))

abbrev pub lowest_row : Row → Row
lowest_row r = row_over (one_if_zero (row_divisor r)) r

abbrev pub row_of : Lin → Refusable Row
row_of f = denominator_of f >>= λ m. scaled_row m f >>= λ r. Ok (lowest_row r)
