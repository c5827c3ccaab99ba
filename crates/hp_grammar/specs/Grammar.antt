-- The grammar, by productions: these tokens are a term with this tree. No limit on parentheses and signs.
use Rattle.std.specs.Prelude.{ℕ, ◌<◌, List, [], ◌∷◌, ◌++◌, pos}
use Rattle.hp_math.specs.Rational.{ℚ, ratio}
use Rattle.hp_tree.specs.declared.term.Term.{Term}
use Rattle.hp_text.specs.declared.token.Kind.TheVariants.{OpenRound, CloseRound, Comma, Plus, Minus, Star, Slash, Null}
use Rattle.hp_grammar.specs.Token.{Token, word, name, numeral}
use Rattle.hp_grammar.specs.Tree.{number_of, null, named, apply, add, sub, neg, scale}

-- number = numeral [ "/" positive ]
pub data SpellsNumber : List Token → ℚ → Type 0 where
  whole : (n : ℕ) → SpellsNumber (numeral n ∷ []) (ratio (pos n) 1)
  fraction : (n d : ℕ) → 0 < d → SpellsNumber (numeral n ∷ word Slash ∷ numeral d ∷ []) (ratio (pos n) d)

mutual
  -- term = [ "-" ] part { ( "+" | "-" ) part }, grouped to the left
  pub data SpellsTerm : List Token → Term → Type 0 where
    part : (u : List Token) (t : Term) → SpellsPart u t → SpellsTerm u t
    minus : (u : List Token) (t : Term) → SpellsPart u t → SpellsTerm (word Minus ∷ u) (neg t)
    sum : (u v : List Token) (a b : Term) → SpellsTerm u a → SpellsPart v b → SpellsTerm (u ++ word Plus ∷ v) (add a b)
    difference : (u v : List Token) (a b : Term) → SpellsTerm u a → SpellsPart v b → SpellsTerm (u ++ word Minus ∷ v) (sub a b)

  -- part = number [ "*" factor ] | factor
  pub data SpellsPart : List Token → Term → Type 0 where
    number : (u : List Token) (q : ℚ) → SpellsNumber u q → SpellsPart u (number_of q)
    product : (u v : List Token) (q : ℚ) (t : Term) → SpellsNumber u q → SpellsFactor v t → SpellsPart (u ++ word Star ∷ v) (scale q t)
    factor : (u : List Token) (t : Term) → SpellsFactor u t → SpellsPart u t

  -- factor = name | name "(" term { "," term } ")" | "null" | "(" term ")"
  pub data SpellsFactor : List Token → Term → Type 0 where
    single : (n : List ℕ) → SpellsFactor (name n ∷ []) (named n)
    call : (n : List ℕ) (u : List Token) (ts : List Term) → SpellsTerms u ts → SpellsFactor (name n ∷ word OpenRound ∷ u ++ word CloseRound ∷ []) (apply n ts)
    nothing : SpellsFactor (word Null ∷ []) null
    group : (u : List Token) (t : Term) → SpellsTerm u t → SpellsFactor (word OpenRound ∷ u ++ word CloseRound ∷ []) t

  -- term { "," term }
  pub data SpellsTerms : List Token → List Term → Type 0 where
    first : (u : List Token) (t : Term) → SpellsTerm u t → SpellsTerms u (t ∷ [])
    more : (u v : List Token) (ts : List Term) (t : Term) → SpellsTerms u ts → SpellsTerm v t → SpellsTerms (u ++ word Comma ∷ v) (ts ++ t ∷ [])
