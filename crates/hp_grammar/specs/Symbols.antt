-- What the tokens of bytes say.
use Rattle.std.specs.Prelude.{ℕ, List, map}
use Rattle.hp_text.specs.declared.token.Kind.{Kind}
use Rattle.hp_text.specs.declared.token.Kind.TheVariants as kinds
use Rattle.hp_text.specs.declared.token.Token.{Token as Placed}
use Rattle.hp_text.specs.Numeral.{numeral_value}
use Rattle.hp_text.specs.Placed.{text_of}
use Rattle.hp_grammar.specs.Token.{Token, word, name, numeral}

-- what a token says, by its kind and its bytes
abbrev pub symbol_by : Kind → List ℕ → Token
symbol_by kinds.Name text = name text
symbol_by kinds.Numeral text = numeral (numeral_value text)
symbol_by kind text = word kind

unfoldable pub symbol_of : List ℕ → Placed → Token
symbol_of bytes t = symbol_by t.kind (text_of bytes t)

abbrev pub symbols : List ℕ → List Placed → List Token
symbols bytes ts = map (symbol_of bytes) ts
