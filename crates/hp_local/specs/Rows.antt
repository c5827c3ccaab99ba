-- Numbers as terms, and rows that give a function its points.
use Rattle.std.specs.Prelude.{◌≡◌, ℕ, List, [], ◌∷◌, ◌++◌, map, length, Bool, not, if◌then◌else◌, pos, codes}
use Rattle.std.specs.Str.{bytes_eq}
use Rattle.std.specs.List.{Contains, filter, list_any}
use Rattle.hp_math.specs.Rational.{ℚ, whole, lt_ℚ, neg_ℚ}
use Rattle.hp_tree.specs.declared.term.Term.{Term, Name, Number, Neg}
use Rattle.hp_tree.specs.declared.problem.Atom.{Atom}
use Rattle.hp_tree.specs.declared.problem.Cmp.TheVariants.{Eq}
use Rattle.hp_tree.specs.Value.{Word, Environment, Functions, value}
use Rattle.hp_model.specs.declared.structure.Row.{Row}
use Rattle.hp_local.specs.Frame.{Fact, same_values}

-- ---- numbers
-- `3`, or the negation of `3` for the number below 0
abbrev pub number_term : ℚ → Term
number_term n = if lt_ℚ n (whole (pos 0)) then Neg (Number (neg_ℚ n)) else Number n

abbrev pub NumbersAreTerms : Type 0
NumbersAreTerms = (names : Environment) (functions : Functions) (n : ℚ) → value names functions (number_term n) ≡ n

-- ---- points of one function
abbrev pub own_facts : Word → List Fact → List Fact
own_facts func facts = filter (λ k. bytes_eq func k.func) facts

-- the first point at each list of arguments
abbrev pub first_facts : List Fact → List Fact
first_facts [] = []
first_facts (k ∷ facts) = k ∷ filter (λ l. not (same_values l.args k.args)) (first_facts facts)

-- whether a point has these arguments
abbrev pub has_arguments : List ℚ → List Fact → Bool
has_arguments args facts = list_any (λ k. same_values args k.args) facts

-- a further point is added where no point has its arguments
abbrev pub FactsAreAddedOnce : Type 0
FactsAreAddedOnce = (facts : List Fact) (k : Fact)
    → first_facts (facts ++ k ∷ []) ≡ (if has_arguments k.args (first_facts facts) then first_facts facts else first_facts facts ++ k ∷ [])

abbrev pub HaveArguments : ℕ → List Fact → Type 0
HaveArguments count facts = (k : Fact) → Contains facts k → length k.args ≡ count

-- ---- their rows
-- the words of the arguments in a table
abbrev pub argument_words : List Word
argument_words = codes "$1" ∷ codes "$2" ∷ codes "$3" ∷ codes "$4" ∷ []

-- `$1 = v & $2 = w`
abbrev pub point_guard : List Word → List ℚ → List Atom
point_guard [] xs = []
point_guard (word ∷ words) [] = []
point_guard (word ∷ words) (x ∷ xs) = record { left = Name word; cmp = Eq; right = number_term x } ∷ point_guard words xs

-- `$1 = v & $2 = w -> u`
abbrev pub point_row : Fact → Row
point_row k = record { guard = point_guard argument_words k.args; value = number_term k.value }

-- a row for each point in their order, equal points once
abbrev pub point_rows : List Fact → List Row
point_rows facts = map point_row (first_facts facts)
