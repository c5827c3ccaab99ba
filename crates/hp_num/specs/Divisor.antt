-- The greatest common divisor of two numbers.
use Rattle.std.specs.Prelude.{ℕ, zero, suc, ◌+◌, ◌%◌, ◌&&◌, nat_eq, if◌then◌else◌}

-- the greatest number up to n that divides both, 0 where none does
unfoldable pub greatest_to : ℕ → ℕ → ℕ → ℕ
greatest_to zero a b = 0
greatest_to (suc n) a b = if nat_eq (a % suc n) 0 && nat_eq (b % suc n) 0 then suc n else greatest_to n a b

-- the greatest number that divides both, the other number where one is 0
unfoldable pub gcd : ℕ → ℕ → ℕ
gcd a b = greatest_to (a + b) a b
