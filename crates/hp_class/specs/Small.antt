-- Values of names that are small enough for the sums in index arguments, and functions with few arguments.
use Rattle.std.specs.Prelude.{◌≡◌, ℕ, ℤ, ◌≤◌, List, length, Some, slice_get, true}
use Rattle.std.specs.List.{All}
use Rattle.hp_math.specs.Rational.{ℚ, is_whole}
use Rattle.hp_tree.specs.Limits.{largest_value, most_arguments}
use Rattle.hp_tree.specs.declared.problem.Sort.{Sort}
use Rattle.hp_tree.specs.declared.problem.Sort.TheVariants.{Idx}
use Rattle.hp_terms.specs.Weight.{IsSmallOffset, IsWithin}
use Rattle.hp_lit.specs.declared.line.Arg.{Arg}
use Rattle.hp_lit.specs.declared.line.Arg.TheVariants.{Number, Named, Index, Null}
use Rattle.hp_lit.specs.declared.line.Def.{Def}
use Rattle.hp_lit.specs.Truth.{Values, name_value, optional_value}
use Rattle.hp_defs.specs.declared.names.Signature.{Signature}
use Rattle.hp_base.specs.Congruence.{body_args}

-- each name of sort idx has a value of a magnitude of at most 10^37
abbrev pub AreSmallIdx : List Sort → Values → Type 0
AreSmallIdx sorts v = (n : ℕ) → slice_get sorts n ≡ Some Idx → IsWithin largest_value (name_value v n).num

-- a small whole number, and what is added to it
pub record IsSmallSum (base : ℚ) (offset : ℤ) : Type 0 where
  pub whole : is_whole base ≡ true
  pub near : IsWithin largest_value base.num
  pub added : IsSmallOffset offset

abbrev pub IsSmallAt : Values → Arg → Type 0
IsSmallAt v (Number q) = Unit {0}
IsSmallAt v (Named name) = Unit {0}
IsSmallAt v (Index base offset) = IsSmallSum (optional_value v base) offset
IsSmallAt v Null = Unit {0}

-- the arguments of a definition are small
abbrev pub HasSmallSums : Values → Def → Type 0
HasSmallSums v d = All (IsSmallAt v) (body_args d.body)

-- no function has more arguments than there are words for them
abbrev pub HasFewArguments : Signature → Type 0
HasFewArguments s = length s.args ≤ most_arguments
