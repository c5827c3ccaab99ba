-- Values of some names, put in their places among the values of all names.
use Rattle.std.specs.Prelude.{◌≡◌, ◌≢◌, List, [], ◌∷◌, Some, slice_get, slice_set}
use Rattle.std.specs.List.{All}
use Rattle.hp_tree.specs.declared.problem.Sort.{Sort}
use Rattle.hp_tree.specs.declared.problem.Sort.TheVariants as sort
use Rattle.hp_lit.specs.declared.literal.NumLit.{NumLit}
use Rattle.hp_lit.specs.declared.valuation.NameValue.{NameValue}
use Rattle.hp_math.specs.Rational.{ℚ}
use Rattle.hp_lit.specs.Sorts.{IsOfSort}
use Rattle.hp_lit.specs.Truth.{Values, name_value, NumIsTrue}
use Rattle.hp_diff.specs.Rows.{IsSmallWhole}

-- any number, a whole number of a magnitude of at most 10^37, a whole number from 0
abbrev pub IsValueOf : Sort → ℚ → Type 0
IsValueOf sort.Num x = Unit {0}
IsValueOf sort.Idx x = IsSmallWhole x
IsValueOf sort.Ptr x = IsOfSort sort.Ptr x

-- a name with such a value for its sort
pub record IsValueOver (sorts : List Sort) (nv : NameValue) : Type 0 where
  pub sort : Sort
  pub at : slice_get sorts nv.name.0 ≡ Some sort
  pub value : IsValueOf sort nv.value

-- no name has two values
abbrev pub AreApart : List NameValue → Type 0
AreApart [] = Unit {0}
AreApart (nv ∷ nvs) = All (λ m. nv.name.0 ≢ m.name.0) nvs × AreApart nvs

-- values, with those of the list in the places of their names
abbrev pub put_all : Values → List NameValue → Values
put_all v [] = v
put_all v (nv ∷ nvs) = put_all (slice_set v nv.name.0 nv.value) nvs

abbrev pub HasValue : Values → NameValue → Type 0
HasValue v nv = name_value v nv.name.0 ≡ nv.value

-- values of names of sort num, no name with two of them, and every literal is true wherever the names have these values
pub record AreSolving (sorts : List Sort) (lits : List NumLit) (values : List NameValue) : Type 0 where
  pub sorted : All (λ nv. slice_get sorts nv.name.0 ≡ Some sort.Num) values
  pub apart : AreApart values
  pub keeps : (v : Values) → All (HasValue v) values → All (NumIsTrue v) lits
