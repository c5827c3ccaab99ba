-- Names as numbered nodes: node 0 is for no name, and the names follow in order.
use Rattle.std.specs.Prelude.{◌≡◌, ℕ, zero, suc, ◌+◌, ◌≤◌, ◌<◌, List, [], ◌∷◌, ◌++◌, length, map, Option, Some, None, slice_index, slice_index_or}
use Rattle.std.specs.List.{All, Contains}
use Rattle.std.specs.List.Sorted.{IsStrictlyIncreasing}
use Rattle.hp_math.specs.Rational.{ℚ}
use Rattle.hp_lit.specs.declared.literal.Name.{Name}
use Rattle.hp_lit.specs.declared.valuation.NameValue.{NameValue}

abbrev pub number_of : Option Name → List ℕ
number_of None = []
number_of (Some name) = name.0 ∷ []

-- the names that rows mention on their left and right sides, each as often as it stands in them
abbrev pub mentioned_by : {A : Type 0} → (A → Option Name) → (A → Option Name) → List A → List ℕ
mentioned_by left right [] = []
mentioned_by left right (row ∷ rows) = number_of (left row) ++ number_of (right row) ++ mentioned_by left right rows

-- the names that are given a value, in order
abbrev pub names_of : List NameValue → List ℕ
names_of values = map (λ nv. nv.name.0) values

-- the names that are mentioned, each once, in order
pub record AreNames (mentions names : List ℕ) : Type 0 where
  pub rising : IsStrictlyIncreasing names
  pub all : All (Contains names) mentions
  pub only : All (Contains mentions) names
  pub few : length names ≤ length mentions

-- no name, or one of the list
abbrev pub IsNamed : List ℕ → Option Name → Type 0
IsNamed names None = Unit {0}
IsNamed names (Some name) = Contains names name.0

-- the name of a node
abbrev pub name_at : List ℕ → ℕ → Option Name
name_at names zero = None
name_at names (suc k) = Some (record { 0 = slice_index names k })

-- each name with the value of its node
pub record AreNamedValues (names : List ℕ) (node_value : ℕ → ℚ) (named : List NameValue) : Type 0 where
  pub same : names_of named ≡ names
  pub value : (k : ℕ) (d : NameValue) → k < length names → (slice_index_or named k d).value ≡ node_value (k + 1)
