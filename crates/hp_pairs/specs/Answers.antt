-- What the test of pairs answers.
use Rattle.std.specs.Prelude.{◌≡◌, ◌≤◌, ℕ, List, [], ◌∷◌, ◌++◌, map, nat_lt, Option, Some, None, Result, Ok, Err, slice_index_or}
use Rattle.std.specs.List.{All, filter, range_with_len}
use Rattle.hp_tree.specs.Limits.{most_arguments}
use Rattle.hp_tree.specs.Value.{Word}
use Rattle.hp_lit.specs.declared.literal.NumLit.{NumLit}
use Rattle.hp_lit.specs.Fit.{IsNumFit}
use Rattle.hp_lit.specs.Truth.{Values, name_value, NumIsTrue}
use Rattle.hp_descent.specs.Answers.{IsStrained}
use Rattle.hp_descent.specs.Columns.{columns}
use Rattle.hp_pairs.specs.declared.branch.Branch.{Branch}
use Rattle.hp_pairs.specs.declared.answer.PlaceValue.{PlaceValue}
use Rattle.hp_pairs.specs.declared.answer.Outside.{Outside}
use Rattle.hp_pairs.specs.declared.answer.PairStrain.{PairStrain}
use Rattle.hp_pairs.specs.declared.answer.PairErr.{PairErr}
use Rattle.hp_pairs.specs.declared.answer.PairErr.TheVariants as refusal
use Rattle.hp_pairs.specs.Branches.{Pair}

-- ---- cases
abbrev pub IsFitGap : Option NumLit → Type 0
IsFitGap None = Unit {0}
IsFitGap (Some gap) = IsNumFit gap

-- all rows can be decided, and the function has at most four arguments
pub record BranchIsFit (b : Branch) : Type 0 where
  pub rows : All IsNumFit b.rows
  pub gap : IsFitGap b.gap
  pub few : b.args ≤ most_arguments

-- ---- a pair
-- no values of names and arguments make all rows true
abbrev pub IsUnmet : Pair → Type 0
IsUnmet p = (v : Values) → All (NumIsTrue v) p.rows → ⊥

-- ---- a point
-- the value of the word at a place
abbrev pub place_value : List Word → Values → ℕ → PlaceValue
place_value words v at = record { name = slice_index_or words at []; value = name_value v at }

-- those of the arguments, whose words stand behind so many others, and then of each of these others that occurs in the rows
abbrev pub point_of : List Word → ℕ → ℕ → List NumLit → Values → List PlaceValue
point_of words others args rows v =
    map (place_value words v) (range_with_len others args) ++ map (place_value words v) (filter (λ at. nat_lt at others) (columns rows))

-- values that make all rows true are shown
pub record IsMet (words : List Word) (others : ℕ) (p : Pair) (o : Outside) : Type 0 where
  pub rule : o.rule ≡ p.rule
  pub clause : o.clause ≡ p.clause
  pub other : o.other ≡ p.other
  pub values : Values
  pub true : All (NumIsTrue values) p.rows
  pub shown : o.at ≡ point_of words others p.args p.rows values

-- a number passes 2^127 - 1 over the rows
pub record IsStrainedPair (p : Pair) (s : PairStrain) : Type 0 where
  pub rule : s.rule ≡ p.rule
  pub clause : s.clause ≡ p.clause
  pub other : s.other ≡ p.other
  pub strain : IsStrained p.rows s.row

-- ---- pairs in their order
-- the first ones are not met, and this holds of the next one
pub record IsFirst (pairs : List Pair) (P : Pair → Type 0) : Type 0 where
  pub before : List Pair
  pub pair : Pair
  pub after : List Pair
  pub split : pairs ≡ before ++ pair ∷ after
  pub unmet : All IsUnmet before
  pub holds : P pair

-- no pair is met; the first one that is, where no number passed before; or one over which a number passes, behind pairs that are not met
abbrev pub Separates : List Word → ℕ → List Pair → Result (Unit {0}) PairErr → Type 0
Separates words others pairs (Ok done) = All IsUnmet pairs
Separates words others pairs (Err (refusal.Outside o)) = IsFirst pairs (λ p. IsMet words others p o)
Separates words others pairs (Err (refusal.Strain s)) = IsFirst pairs (λ p. IsStrainedPair p s)
Separates words others pairs (Err refusal.Memory) = Unit {0}
