-- Kept rows with values at which they are true.
use Rattle.std.specs.Prelude.{◌≡◌, ℕ, ◌+◌, ◌<◌, ◌^◌, ℤ, pos, ◌+ℤ◌, ◌-ℤ◌, ◌≤ℤ◌, List, ◌∷◌, [], ◌++◌, Option, Some, None, map}
use Rattle.std.specs.List.{All}
use Rattle.hp_math.specs.Rational.{whole}
use Rattle.hp_lit.specs.declared.literal.Name.{Name}
use Rattle.hp_lit.specs.declared.literal.IdxLit.{IdxLit}
use Rattle.hp_lit.specs.declared.literal.Lit.TheVariants.{Idx}
use Rattle.hp_lit.specs.declared.proof.Step.{Step}
use Rattle.hp_lit.specs.Truth.{Values, name_value, IdxIsTrue}
use Rattle.hp_lit.specs.Cycle.{IsValidIdx}
use Rattle.hp_diff.specs.inner.Settled.{value_at}

-- the number of names, the rows, and a value for each node: for no name first, and then for the names
pub record KeptRows : Type 0 where
  pub names : ℕ
  pub rows : List IdxLit
  pub nodes : List ℤ

-- the value of a name
abbrev pub kept_value : KeptRows → ℕ → ℤ
kept_value kept n = value_at kept.nodes (n + 1) -ℤ value_at kept.nodes 0

-- every row is true wherever the names have their values
abbrev pub AreKept : KeptRows → Type 0
AreKept kept = (v : Values) → ((n : ℕ) → n < kept.names → name_value v n ≡ whole (kept_value kept n)) → All (IdxIsTrue v) kept.rows

abbrev pub IsBelow : ℕ → Option Name → Type 0
IsBelow names None = Unit {0}
IsBelow names (Some name) = name.0 < names

-- a row over the names, with a bound of a magnitude of at most 10^32
pub record IsKeepable (names : ℕ) (row : IdxLit) : Type 0 where
  pub left : IsBelow names row.left
  pub right : IsBelow names row.right
  pub low : pos 0 ≤ℤ (row.bound +ℤ pos (10 ^ 32))
  pub high : row.bound ≤ℤ pos (10 ^ 32)

-- the row is kept last, or there is a cycle over the rows and it, and the rows are as before
abbrev pub IsPushed : KeptRows → KeptRows → IdxLit → Option (List Step) → Type 0
IsPushed old new row None = new.rows ≡ old.rows ++ row ∷ []
IsPushed old new row (Some steps) = (new.rows ≡ old.rows) × IsValidIdx (map Idx (old.rows ++ row ∷ [])) steps
