-- Numerals and their values.
use Rattle.std.specs.Prelude.{◌≡◌, true, ℕ, ◌+◌, ◌*◌, ◌-◌, ◌<◌, ◌≤◌, List, length, fold}
use Rattle.std.specs.List.{list_all}
use Rattle.hp_text.specs.Bytes.{is_digit}

-- 1 to 18 digits
pub record IsNumeral (digits : List ℕ) : Type 0 where
  pub some : 0 < length digits
  pub most : length digits ≤ 18
  pub each : list_all is_digit digits ≡ true

-- the number that digits write, the first digit counting most
abbrev pub numeral_value : List ℕ → ℕ
numeral_value digits = fold (λ n d. 10 * n + (d - 48)) 0 digits
