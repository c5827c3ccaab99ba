-- The tokens of a whole text, in order, and what stands behind the last of them.
use Rattle.std.specs.Prelude.{◌≡◌, ◌≢◌, true, ℕ, ◌<◌, ◌^◌, List, [], ◌∷◌, map, Result, Ok, Err}
use Rattle.hp_text.specs.Numeral.{numeral_value}
use Rattle.hp_text.specs.Words.{IsName, is_fixed}
use Rattle.hp_text.specs.Tokens.{next_from}
use Rattle.hp_text.specs.Placed.{text_of}
use Rattle.hp_text.specs.declared.token.Kind.{Kind}
use Rattle.hp_text.specs.declared.token.Kind.TheVariants as kinds
use Rattle.hp_text.specs.declared.token.Token.{Token}
use Rattle.hp_text.specs.declared.token.TokenErr.{TokenErr}

-- these tokens stand one after another between two places
abbrev pub Passes : List ℕ → ℕ → List Token → ℕ → Type 0
Passes bytes from [] to = from ≡ to
Passes bytes from (t ∷ ts) to = (next_from bytes from ≡ Ok t) × (t.kind ≢ kinds.End) × Passes bytes t.end ts to

-- no token is behind it: the end of the text, or a fault
abbrev pub IsLast : Result Token TokenErr → Type 0
IsLast (Ok t) = t.kind ≡ kinds.End
IsLast (Err e) = Unit {0}

-- the text has these tokens, and behind them its end or the first fault
pub record Lexes (bytes : List ℕ) (tokens : List Token) (last : Result Token TokenErr) : Type 0 where
  pub place : ℕ
  pub passes : Passes bytes 0 tokens place
  pub next : next_from bytes place ≡ last
  pub is_last : IsLast last

-- every text has one list of tokens, and one end of it
pub record HasOneLexing (bytes : List ℕ) : Type 0 where
  pub some : (tokens : List Token) × (last : Result Token TokenErr) × Lexes bytes tokens last
  pub one : (ts us : List Token) (l m : Result Token TokenErr) → Lexes bytes ts l → Lexes bytes us m → (ts ≡ us) × (l ≡ m)

-- what a token says, wherever it stands: a reserved word, a sign or the end; a name by its bytes; a numeral by its value
pub data Said : Type 0 where
  word : Kind → Said
  name : List ℕ → Said
  numeral : ℕ → Said

abbrev pub said_by : Kind → List ℕ → Said
said_by kinds.Name text = name text
said_by kinds.Numeral text = numeral (numeral_value text)
said_by kind text = word kind

unfoldable pub said : List ℕ → Token → Said
said bytes t = said_by t.kind (text_of bytes t)

-- what the tokens of a text say, in order
abbrev pub all_said : List ℕ → List Token → List Said
all_said bytes tokens = map (said bytes) tokens

-- what a token of a text can say: a reserved word or a sign, a name, or a number of at most 18 digits
abbrev pub IsSaid : Said → Type 0
IsSaid (word kind) = is_fixed kind ≡ true
IsSaid (name text) = IsName text
IsSaid (numeral n) = n < 10 ^ 18

abbrev pub AreSaid : List Said → Type 0
AreSaid [] = Unit {0}
AreSaid (s ∷ ss) = IsSaid s × AreSaid ss
