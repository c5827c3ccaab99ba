-- What is answered for one pair, and what is shown of a solution of its rows.
use Rattle.std.specs.Prelude.{◌≤◌, ℕ, List, [], ◌∷◌, map, nat_lt, Bool, Option, Some, None, Result, Ok, Err, slice_index_or}
use Rattle.std.specs.List.{All, filter, range_with_len}
use Rattle.hp_tree.specs.Limits.{most_arguments}
use Rattle.hp_tree.specs.Value.{Word}
use Rattle.hp_lit.specs.declared.valuation.NameValue.{NameValue}
use Rattle.hp_lit.specs.Fit.{IsNumFit}
use Rattle.hp_descent.specs.Values.{value_in}
use Rattle.hp_pairs.specs.declared.answer.PlaceValue.{PlaceValue}
use Rattle.hp_pairs.specs.declared.answer.PairErr.{PairErr}
use Rattle.hp_pairs.specs.declared.answer.PairErr.TheVariants as refusal
use Rattle.hp_pairs.specs.declared.test.Test.{Test}
use Rattle.hp_pairs.specs.Branches.{Pair}
use Rattle.hp_pairs.specs.Answers.{IsUnmet, IsMet, IsStrainedPair}

-- ---- a test
abbrev pub pair_of : Test → Pair
pair_of t = record { rule = t.rule; clause = t.clause; other = t.other; args = t.args; rows = t.rows }

abbrev pub pairs_of : Option Test → List Pair
pairs_of None = []
pairs_of (Some t) = pair_of t ∷ []

-- its rows can be decided, and the function has at most four arguments
pub record TestIsFit (t : Test) : Type 0 where
  pub rows : All IsNumFit t.rows
  pub few : t.args ≤ most_arguments

abbrev pub AreTestsFit : Option Test → Type 0
AreTestsFit None = Unit {0}
AreTestsFit (Some t) = TestIsFit t

-- the pair isn't met, or is, or a number passes over its rows
abbrev pub Tells : List Word → ℕ → Pair → Result (Unit {0}) PairErr → Type 0
Tells words others p (Ok done) = IsUnmet p
Tells words others p (Err (refusal.Outside o)) = IsMet words others p o
Tells words others p (Err (refusal.Strain s)) = IsStrainedPair p s
Tells words others p (Err refusal.Memory) = Unit {0}

-- ---- a solution
-- the word at a place with the value that it has in a solution, 0 where it has none
abbrev pub place_among : List Word → List NameValue → ℕ → PlaceValue
place_among words values at = record { name = slice_index_or words at []; value = value_in values at }

abbrev pub named_place : List Word → NameValue → PlaceValue
named_place words nv = record { name = slice_index_or words nv.name.0 []; value = nv.value }

-- those of so many arguments behind the others, and then of these others
abbrev pub argument_places : List Word → ℕ → ℕ → List NameValue → List PlaceValue
argument_places words others args values = map (place_among words values) (range_with_len others args)

abbrev pub is_below : ℕ → NameValue → Bool
is_below others nv = nat_lt nv.name.0 others

abbrev pub named_places : List Word → ℕ → List NameValue → List PlaceValue
named_places words others values = map (named_place words) (filter (is_below others) values)
