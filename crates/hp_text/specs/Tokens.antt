-- The tokens of a text, said on its bytes: blanks and comments, and then the longest token that stands there.
use Rattle.std.specs.Prelude.{Bool, true, false, ℕ, ◌+◌, ◌==◌, nat_le, if◌then◌else◌, List, [], ◌∷◌, take, drop, Option, Some, None, Result, Ok, Err}
use Rattle.std.specs.List.{prefix_len}
use Rattle.hp_text.specs.Bytes.{is_blank, is_digit, is_letter, is_name_byte}
use Rattle.hp_text.specs.Words.{word_kind, sign_of}
use Rattle.hp_text.specs.declared.token.Kind.{Kind}
use Rattle.hp_text.specs.declared.token.Kind.TheVariants as kinds
use Rattle.hp_text.specs.declared.token.Token.{Token}
use Rattle.hp_text.specs.declared.token.TokenErr.{TokenErr}
use Rattle.hp_text.specs.declared.token.TokenErr.TheVariants.{Stray, LongNumeral}

-- how many bytes of blanks and comments stand in front; a comment goes from `#` to the end of its line,
-- whose line feed is a blank, or to the end of the text
abbrev mutual
  pub gap : List ℕ → ℕ
  gap [] = 0
  gap (b ∷ bs) = if b == 35 then 1 + comment bs else (if is_blank b then 1 + gap bs else 0)

  pub comment : List ℕ → ℕ
  comment [] = 0
  comment (b ∷ bs) = 1 + (if b == 10 then gap bs else comment bs)

-- the same inside a comment or outside
abbrev pub gap_in : Bool → List ℕ → ℕ
gap_in true bytes = comment bytes
gap_in false bytes = gap bytes

-- a token of this kind and length
abbrev pub token : ℕ → Kind → ℕ → Token
token start kind n = record { kind = kind; start = start; end = start + n }

-- a run of so many digits is a numeral, unless they are more than 18
abbrev pub numeral_of : ℕ → ℕ → Result Token TokenErr
numeral_of start n = if nat_le n 18 then Ok (token start kinds.Numeral n) else Err (LongNumeral start)

abbrev pub sign_token : ℕ → Option (Kind × ℕ) → Result Token TokenErr
sign_token start None = Err (Stray start)
sign_token start (Some s) = Ok (token start s.0 s.1)

-- the token at the front of bytes that begin at this place, with no blank and no comment
abbrev pub front : ℕ → List ℕ → Result Token TokenErr
front start [] = Ok (token start kinds.End 0)
front start (b ∷ bs) =
    if is_letter b then (let n = prefix_len is_name_byte (b ∷ bs) in Ok (token start (word_kind (take n (b ∷ bs))) n))
    else (if is_digit b then numeral_of start (prefix_len is_digit (b ∷ bs)) else sign_token start (sign_of (b ∷ bs)))

-- where the next token begins, from a place on
abbrev pub start_from : List ℕ → ℕ → ℕ
start_from bytes at = at + gap (drop at bytes)

-- the next token of the text, from a place on
abbrev pub next_from : List ℕ → ℕ → Result Token TokenErr
next_from bytes at = let start = start_from bytes at in front start (drop start bytes)
