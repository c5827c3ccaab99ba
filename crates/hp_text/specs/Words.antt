-- The texts that are always the same token, reserved words and signs, and the names.
use Rattle.std.specs.Prelude.{◌≡◌, Bool, true, false, not, ◌&&◌, ℕ, nat_eq, if◌then◌else◌, List, [], ◌∷◌, ◌++◌, length, codes, Option, Some, None}
use Rattle.std.specs.List.{starts_with, list_all, list_any}
use lib.Pointwise.{pointwise}
use Rattle.hp_text.specs.Bytes.{is_letter, is_name_byte}
use Rattle.hp_text.specs.declared.token.Kind.{Kind}
use Rattle.hp_text.specs.declared.token.Kind.TheVariants as kinds

-- the kind of a reserved word or a sign
abbrev pub is_fixed : Kind → Bool
is_fixed kinds.Name = false
is_fixed kinds.Numeral = false
is_fixed kinds.End = false
is_fixed k = true

-- a text that is always the same token
pub record Fixed : Type 0 where
  pub text : List ℕ
  pub kind : Kind

abbrev pub fixed : List ℕ → Kind → Fixed
fixed text kind = record { text = text; kind = kind }

abbrev pub reserved_words : List Fixed
reserved_words =
    fixed (codes "profile") kinds.Profile ∷ fixed (codes "const") kinds.Const ∷ fixed (codes "fun") kinds.Fun
    ∷ fixed (codes "level") kinds.Level ∷ fixed (codes "clause") kinds.Clause ∷ fixed (codes "query") kinds.Query
    ∷ fixed (codes "num") kinds.Num ∷ fixed (codes "idx") kinds.Idx ∷ fixed (codes "ptr") kinds.Ptr
    ∷ fixed (codes "null") kinds.Null ∷ fixed (codes "false") kinds.False ∷ []

abbrev pub long_signs : List Fixed
long_signs =
    fixed (codes "<=") kinds.LessEq ∷ fixed (codes "!=") kinds.NotEqual ∷ fixed (codes ">=") kinds.GreaterEq ∷ fixed (codes "->") kinds.Arrow ∷ []

abbrev pub short_signs : List Fixed
short_signs =
    fixed (codes "<") kinds.Less ∷ fixed (codes "=") kinds.Equal ∷ fixed (codes ">") kinds.Greater
    ∷ fixed (codes "&") kinds.And ∷ fixed (codes "|") kinds.Or
    ∷ fixed (codes "(") kinds.OpenRound ∷ fixed (codes ")") kinds.CloseRound
    ∷ fixed (codes "[") kinds.OpenSquare ∷ fixed (codes "]") kinds.CloseSquare
    ∷ fixed (codes ",") kinds.Comma ∷ fixed (codes ":") kinds.Colon ∷ fixed (codes ";") kinds.Semicolon
    ∷ fixed (codes "+") kinds.Plus ∷ fixed (codes "-") kinds.Minus ∷ fixed (codes "*") kinds.Star ∷ fixed (codes "/") kinds.Slash ∷ []

-- a sign of two bytes stands before the sign that is its first byte
abbrev pub signs : List Fixed
signs = long_signs ++ short_signs

-- the kind of the word among these texts, and a name where it is none of them
abbrev pub kind_among : List Fixed → List ℕ → Kind
kind_among [] word = kinds.Name
kind_among (f ∷ fs) word = if pointwise nat_eq word f.text then f.kind else kind_among fs word

-- the kind of a letter with all the name bytes behind it
abbrev pub word_kind : List ℕ → Kind
word_kind word = kind_among reserved_words word

-- the kind and the length of the first of these texts that the bytes begin with
abbrev pub first_among : List Fixed → List ℕ → Option (Kind × ℕ)
first_among [] bytes = None
first_among (f ∷ fs) bytes = if starts_with nat_eq bytes f.text then Some (f.kind, length f.text) else first_among fs bytes

-- the sign at the front, the longest one
abbrev pub sign_of : List ℕ → Option (Kind × ℕ)
sign_of bytes = first_among signs bytes

abbrev pub is_reserved : List ℕ → Bool
is_reserved word = list_any (λ (f : Fixed). pointwise nat_eq word f.text) reserved_words

-- a letter, and then name bytes; no reserved word
abbrev pub is_name : List ℕ → Bool
is_name [] = false
is_name (b ∷ bs) = is_letter b && (list_all is_name_byte bs && not (is_reserved (b ∷ bs)))

abbrev pub IsName : List ℕ → Type 0
IsName word = is_name word ≡ true
