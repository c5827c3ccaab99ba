-- Rows: bounds on differences of named whole numbers, and values that keep them.
use Rattle.std.specs.Prelude.{◌≡◌, ℕ, List, pos, ◌+ℤ◌, ◌≤ℤ◌, map, true}
use Rattle.std.specs.List.{All, Contains}
use Rattle.std.specs.List.Sorted.{IsStrictlyIncreasing}
use Rattle.hp_math.specs.Rational.{ℚ, is_whole}
use Rattle.hp_tree.specs.Limits.{largest_value}
use Rattle.hp_lit.specs.declared.literal.IdxLit.{IdxLit}
use Rattle.hp_lit.specs.declared.literal.Lit.TheVariants.{Idx}
use Rattle.hp_lit.specs.declared.valuation.NameValue.{NameValue}
use Rattle.hp_lit.specs.Truth.{Values, name_value, IdxIsTrue}
use Rattle.hp_lit.specs.Cycle.{IsValidIdx}
use Rattle.hp_nodes.specs.Nodes.{mentioned_by, names_of}
use Rattle.hp_diff.specs.declared.answer.DiffAnswer.{DiffAnswer}
use Rattle.hp_diff.specs.declared.answer.DiffAnswer.TheVariants.{Point, Cycle}

-- the names that the rows mention, each as often as it stands in them
abbrev pub mentioned : List IdxLit → List ℕ
mentioned rows = mentioned_by (λ row. row.left) (λ row. row.right) rows

-- a whole number of a magnitude of at most 10^37
pub record IsSmallWhole (q : ℚ) : Type 0 where
  pub whole : is_whole q ≡ true
  pub low : pos 0 ≤ℤ (q.num +ℤ pos largest_value)
  pub high : q.num ≤ℤ pos largest_value

-- Each name of the rows has one value, no other name has one, the values are small whole numbers, and every row is true
-- wherever the names have these values.
pub record IsPoint (rows : List IdxLit) (values : List NameValue) : Type 0 where
  pub named : All (Contains (names_of values)) (mentioned rows)
  pub only : All (Contains (mentioned rows)) (names_of values)
  pub rising : IsStrictlyIncreasing (names_of values)
  pub small : All (λ nv. IsSmallWhole nv.value) values
  pub keeps : (v : Values) → All (λ nv. name_value v nv.name.0 ≡ nv.value) values → All (IdxIsTrue v) rows

-- values of the names that make all rows true, or a cycle of rows whose bounds add to less than 0
abbrev pub IsDiffAnswer : List IdxLit → DiffAnswer → Type 0
IsDiffAnswer rows (Point values) = IsPoint rows values
IsDiffAnswer rows (Cycle steps) = IsValidIdx (map Idx rows) steps
