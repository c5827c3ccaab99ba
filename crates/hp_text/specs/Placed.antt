-- What holds of the next token of a text, and of the fault that stands in its place.
use Rattle.std.specs.Prelude.{◌≡◌, ◌≢◌, ℕ, ◌<◌, ◌≤◌, List, length, slice_range}
use Rattle.hp_text.specs.Numeral.{IsNumeral}
use Rattle.hp_text.specs.Words.{IsName}
use Rattle.hp_text.specs.declared.token.Kind.TheVariants as kinds
use Rattle.hp_text.specs.declared.token.Token.{Token}
use Rattle.hp_text.specs.declared.token.TokenErr.{TokenErr}
use Rattle.hp_text.specs.declared.token.TokenErr.TheVariants.{Stray, LongNumeral}

-- the bytes of a token
abbrev pub text_of : List ℕ → Token → List ℕ
text_of bytes t = slice_range bytes t.start t.end

-- the token stands in the text at a place or behind it
pub record IsPlaced (bytes : List ℕ) (place : ℕ) (t : Token) : Type 0 where
  pub behind : place ≤ t.start
  pub within : t.end ≤ length bytes
  pub order : t.start ≤ t.end
  pub some : t.kind ≢ kinds.End → t.start < t.end
  pub last : t.kind ≡ kinds.End → (t.start ≡ length bytes) × (t.end ≡ length bytes)
  pub numeral : t.kind ≡ kinds.Numeral → IsNumeral (text_of bytes t)
  pub name : t.kind ≡ kinds.Name → IsName (text_of bytes t)

abbrev pub offset_of : TokenErr → ℕ
offset_of (Stray offset) = offset
offset_of (LongNumeral offset) = offset

-- the fault stands at a byte of the text, at a place or behind it
pub record IsFaultPlaced (bytes : List ℕ) (place : ℕ) (e : TokenErr) : Type 0 where
  pub behind : place ≤ offset_of e
  pub within : offset_of e < length bytes
