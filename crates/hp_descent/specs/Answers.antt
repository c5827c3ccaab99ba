-- What the descent over literals answers: values at which each literal is true, a combination of the literals that adds to
-- nothing below 0, or the first number that passes 2^127 - 1.
use Rattle.std.specs.Prelude.{◌≡◌, ◌<◌, ◌^◌, ℕ, suc, List, map, length, reverse, Result, Ok, Err}
use Rattle.std.specs.List.{All}
use Rattle.hp_math.specs.Rational.{ℚ}
use Rattle.hp_lit.specs.declared.literal.NumLit.{NumLit}
use Rattle.hp_lit.specs.declared.literal.Lit.TheVariants.{Num}
use Rattle.hp_lit.specs.declared.valuation.NameValue.{NameValue}
use Rattle.hp_lit.specs.Truth.{Values, name_value, NumIsTrue}
use Rattle.hp_lit.specs.Leaf.{IsValidNum}
use Rattle.hp_rows.specs.declared.answer.Place.{Place}
use Rattle.hp_rows.specs.declared.answer.Place.TheVariants as place
use Rattle.hp_rows.specs.Strain.{IsStrainAt}
use Rattle.hp_rows.specs.Answers.{IsPoint}
use Rattle.hp_rows.specs.Points.{values_of}
use Rattle.hp_rows.specs.Exact.{AreQuotients}
use Rattle.hp_descent.specs.declared.answer.At.{At}
use Rattle.hp_descent.specs.declared.answer.At.TheVariants as at
use Rattle.hp_descent.specs.declared.answer.Form.{Form}
use Rattle.hp_descent.specs.declared.answer.Form.TheVariants as form
use Rattle.hp_descent.specs.declared.answer.RowStrain.{RowStrain}
use Rattle.hp_descent.specs.declared.answer.DescentErr.{DescentErr}
use Rattle.hp_descent.specs.declared.answer.DescentErr.TheVariants as failure
use Rattle.hp_descent.specs.declared.answer.NumAnswer.{NumAnswer}
use Rattle.hp_descent.specs.declared.answer.NumAnswer.TheVariants as answer
use Rattle.hp_descent.specs.declared.answer.ChainAnswer.{ChainAnswer}
use Rattle.hp_descent.specs.declared.answer.ChainAnswer.TheVariants as chain_answer
use Rattle.hp_descent.specs.Columns.{columns}
use Rattle.hp_descent.specs.LiteralRows.{rows_of, width_of}

-- each name that occurs has a value, in rising order of names, and every literal is true wherever the names have these
-- values
pub record IsSolution (lits : List NumLit) (values : List NameValue) : Type 0 where
  pub named : map (λ nv. nv.name.0) values ≡ columns lits
  pub keeps : (v : Values) → All (λ nv. name_value v nv.name.0 ≡ nv.value) values → All (NumIsTrue v) lits

-- a solution from the point of a chain of the literals' rows, whose numbers count from 1: all rows hold at the point, and
-- each value is the coordinate of its name over that of t, computed without a number that passes
pub record IsChainSolution (lits : List NumLit) (chain : List ℕ) (values : List NameValue) : Type 0 where
  pub rows : List ℕ
  pub numbers : chain ≡ map suc rows
  pub point : List ℚ
  pub is_point : IsPoint (rows_of lits) (width_of lits) rows point
  pub quotients : AreQuotients (length (columns lits)) point (map (λ nv. nv.value) values)
  pub made : values_of (length (columns lits)) point ≡ Ok (map (λ nv. nv.value) values)
  pub solution : IsSolution lits values

-- how a number passes, and where, with row numbers that count from 1: as the chain is eliminated from a row; as a
-- coordinate of the chain's point is computed; as a row's left side is summed at that point; or as a coordinate is divided
-- by t, where all rows hold
abbrev pub form_of : Place → Form
form_of (place.Line row) = form.Elimination
form_of place.Point = form.Coordinate
form_of (place.Sum row) = form.Sum
form_of place.Value = form.Value

abbrev pub at_of : Place → At
at_of (place.Line row) = at.Row (suc row)
at_of place.Point = at.Point
at_of (place.Sum row) = at.Row (suc row)
at_of place.Value = at.Point

-- the strain relation over the rows of the literals; a chain lists row numbers from 1 in the order in which they were taken
pub record IsStrained (lits : List NumLit) (s : RowStrain) : Type 0 where
  pub rows : List ℕ
  pub numbers : s.chain ≡ map suc rows
  pub place : Place
  pub form : s.form ≡ form_of place
  pub at : s.at ≡ at_of place
  pub strains : IsStrainAt (rows_of lits) (width_of lits) (reverse rows) place s.wide

-- a place whose row, if it has one, has a number below 2^31
abbrev pub IsSmallPlace : Place → Type 0
IsSmallPlace (place.Line row) = row < 2 ^ 31
IsSmallPlace (place.Sum row) = row < 2 ^ 31
IsSmallPlace _ = Unit {0}

-- want of memory claims nothing
abbrev pub IsCause : List NumLit → DescentErr → Type 0
IsCause lits (failure.Strain s) = IsStrained lits s
IsCause lits failure.Memory = Unit {0}

abbrev pub Decides : List NumLit → Result NumAnswer DescentErr → Type 0
Decides lits (Ok (answer.Point values)) = IsSolution lits values
Decides lits (Ok (answer.Farkas shares)) = IsValidNum (map Num lits) shares
Decides lits (Err e) = IsCause lits e

abbrev pub DecidesChain : List NumLit → Result ChainAnswer DescentErr → Type 0
DecidesChain lits (Ok (chain_answer.Point chain values)) = IsChainSolution lits chain values
DecidesChain lits (Ok (chain_answer.Farkas shares)) = IsValidNum (map Num lits) shares
DecidesChain lits (Err e) = IsCause lits e
