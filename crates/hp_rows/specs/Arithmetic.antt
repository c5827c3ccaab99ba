-- Steps over whole numbers: a test, a quotient and a sign.
use Rattle.std.specs.Prelude.{ℕ, ℤ, pos, negsuc, neg_ℤ, int_div, Bool, nat_eq, unsigned_abs}

-- a whole number is 0
abbrev pub is_nothing : ℤ → Bool
is_nothing z = nat_eq (unsigned_abs z) 0

-- z over d, its sign kept, rounded toward 0
abbrev pub over : ℤ → ℕ → ℤ
over z d = int_div z (pos d)

-- z with the sign of another number taken in: -z where that is negative
abbrev pub signed_by : ℤ → ℤ → ℤ
signed_by (pos n) z = z
signed_by (negsuc n) z = neg_ℤ z
