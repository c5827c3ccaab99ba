-- The tokens of a text, without their places.
use Rattle.std.specs.Prelude.{◌≡◌, ◌^◌, Bool, true, false, nat_lt, List, [], ◌∷◌}
use denote.Enum.Bare.{sameb}
use Rattle.hp_text.specs.contracts.token.Kind.{the_type}
use Rattle.hp_text.specs.declared.token.Kind.{Kind}
use Rattle.hp_text.specs.declared.token.Kind.TheVariants as kinds
use Rattle.hp_text.specs.Words.{is_name}
-- A reserved word or a sign; a name, by its bytes; a numeral, by its value.
pub use Rattle.hp_grammar.specs.declared.symbol.Symbol.{Symbol as Token}
pub use Rattle.hp_grammar.specs.declared.symbol.Symbol.TheVariants.{Word as word, Name as name, Numeral as numeral}

-- the two kinds are one
unfoldable pub same : Kind → Kind → Bool
same a b = sameb the_type a b

-- the kind of a reserved word or of a sign
abbrev pub is_word : Kind → Bool
is_word kinds.Name = false
is_word kinds.Numeral = false
is_word kinds.End = false
is_word k = true

-- some bytes are this token
abbrev pub is_token : Token → Bool
is_token (word k) = is_word k
is_token (name x) = is_name x
is_token (numeral n) = nat_lt n (10 ^ 18)

abbrev pub AreTokens : List Token → Type 0
AreTokens [] = Unit {0}
AreTokens (t ∷ ts) = (is_token t ≡ true) × AreTokens ts
