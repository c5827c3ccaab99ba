-- What terms are found again by: lists of whole numbers, equal for equal terms and for no others.
use Rattle.std.specs.Prelude.{ℤ, pos, List, [], ◌∷◌, ◌++◌, length, map}
use Rattle.hp_math.specs.Rational.{ℚ}
use Rattle.hp_tree.specs.declared.term.Term.{Term, fold-Term}
use Rattle.hp_tree.specs.declared.term.Term.TheOpen.{Term-F}
use Rattle.hp_tree.specs.Value.{Word}

-- a word by its length and its bytes
abbrev pub word_key : Word → List ℤ
word_key word = pos (length word) ∷ map pos word

-- a number by its numerator and its denominator in lowest terms
abbrev pub number_key : ℚ → List ℤ
number_key q = q.num ∷ pos q.den ∷ []

-- terms in their order, with a 1 before each and a 0 behind the last
abbrev pub list_key : List (List ℤ) → List ℤ
list_key [] = pos 0 ∷ []
list_key (key ∷ keys) = pos 1 ∷ (key ++ list_key keys)

abbrev pub key_step : Term-F (List ℤ) → List ℤ
key_step (Term-F.Number q) = pos 0 ∷ number_key q
key_step Term-F.Null = pos 1 ∷ []
key_step (Term-F.Name word) = pos 2 ∷ word_key word
key_step (Term-F.Apply func args) = pos 3 ∷ (word_key func ++ list_key args)
key_step (Term-F.Add a b) = pos 4 ∷ (a ++ b)
key_step (Term-F.Sub a b) = pos 5 ∷ (a ++ b)
key_step (Term-F.Neg a) = pos 6 ∷ a
key_step (Term-F.Scale q a) = pos 7 ∷ (number_key q ++ a)

-- the kind of a term, and then its words, numbers and parts from left to right
abbrev pub term_key : Term → List ℤ
term_key = fold-Term (List ℤ) key_step
