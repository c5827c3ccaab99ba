-- How large the value of a few digits can be.
use Rattle.std.proofs.Common.{◌≡◌, ℕ, ◌+◌, ◌*◌, ◌^◌, ◌<◌, ◌≤◌, arith}
use Rattle.std.proofs.Math.Nat.{pow-le-pow_right}

pub one_digit_more : (value place : ℕ) → value < 10 ^ place → place < 18 → 10 * value + 256 < 2 ^ 64
one_digit_more value place small few =
    let bound : 10 ^ place ≤ 10 ^ 17 = pow-le-pow_right {n = 10} (omega arith) {i = place} {j = 17} (omega arith) in omega arith

pub few_digits : (value n place : ℕ) → value ≡ n → value < 10 ^ place → place ≤ 18 → n < 10 ^ 18
few_digits value n place e small few =
    let bound : 10 ^ place ≤ 10 ^ 18 = pow-le-pow_right {n = 10} (omega arith) {i = place} {j = 18} (omega arith) in omega arith
