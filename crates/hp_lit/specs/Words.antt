-- Words that stand for names by their places: their sorts, and environments that give them the values of their names.
use Rattle.std.specs.Prelude.{◌≡◌, ℕ, List, Bool, false, Option, Some, None, option_and_then, option_map, position, slice_get}
use Rattle.std.specs.Str.{bytes_eq}
use Rattle.hp_math.specs.Rational.{ℚ}
use Rattle.hp_tree.specs.declared.problem.Sort.{Sort}
use Rattle.hp_terms.specs.Scope.{Scope}
use Rattle.hp_lit.specs.declared.literal.Name.{Name}
use Rattle.hp_tree.specs.Value.{Word}
use Rattle.hp_lit.specs.Truth.{Values, name_value}

-- the name that a word stands for: its first place among the words
abbrev pub number : List Word → Word → Option Name
number words word = option_map (λ at. record { 0 = at }) (position (bytes_eq word) words)

-- each word has in the environment the value of its name
abbrev pub Agrees : List Word → Values → (Word → ℚ) → Type 0
Agrees words v env = (k : ℕ) (word : Word) → slice_get words k ≡ Some word → env word ≡ name_value v k

-- each word has the sort at its place; there are no functions, and no number is a pointer
abbrev pub scope_over : List Word → List Sort → Scope
scope_over words sorts = record {
  name = λ word. option_and_then (λ at. slice_get sorts at) (position (bytes_eq word) words);
  function = λ word. None;
  pointer = λ number. false;
}
