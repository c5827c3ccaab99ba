-- The next token in other words: the longest piece of the text that spells a token, with the kind that its bytes have.
use Rattle.std.specs.Prelude.{◌≡◌, ◌≢◌, Bool, true, false, ◌&&◌, ◌||◌, ℕ, ◌+◌, ◌<◌, ◌≤◌, nat_eq, if◌then◌else◌, List, [], ◌∷◌, length, slice_range, Result, Ok, Err}
use Rattle.std.specs.List.{list_all, list_any}
use lib.Pointwise.{pointwise}
use Rattle.hp_text.specs.Bytes.{is_digit, is_letter, is_name_byte}
use Rattle.hp_text.specs.Words.{Fixed, signs, kind_among, word_kind}
use Rattle.hp_text.specs.declared.token.Kind.{Kind}
use Rattle.hp_text.specs.declared.token.Kind.TheVariants as kinds
use Rattle.hp_text.specs.declared.token.Token.{Token}
use Rattle.hp_text.specs.declared.token.TokenErr.{TokenErr}
use Rattle.hp_text.specs.declared.token.TokenErr.TheVariants.{Stray, LongNumeral}

-- a name or a reserved word
abbrev pub is_word : List ℕ → Bool
is_word [] = false
is_word (b ∷ bs) = is_letter b && list_all is_name_byte bs

-- digits, however many
abbrev pub is_digits : List ℕ → Bool
is_digits [] = false
is_digits (b ∷ bs) = is_digit b && list_all is_digit bs

abbrev pub is_sign : List ℕ → Bool
is_sign text = list_any (λ (f : Fixed). pointwise nat_eq text f.text) signs

abbrev pub is_token : List ℕ → Bool
is_token text = is_word text || (is_digits text || is_sign text)

-- the kind of a piece of text that spells a token
abbrev pub kind_of : List ℕ → Kind
kind_of text = if is_word text then word_kind text else (if is_digits text then kinds.Numeral else kind_among signs text)

-- the piece between two places spells a token, and none that begins there and is longer does
pub record IsLongest (bytes : List ℕ) (start end : ℕ) : Type 0 where
  pub spelled : is_token (slice_range bytes start end) ≡ true
  pub longest : (m : ℕ) → end < m → m ≤ length bytes → is_token (slice_range bytes start m) ≡ false

-- a token is the longest piece and has its kind; at a stray byte no piece spells a token; a long numeral has more than 18 digits
abbrev pub StandsLongest : List ℕ → Result Token TokenErr → Type 0
StandsLongest bytes (Ok t) = t.kind ≢ kinds.End → IsLongest bytes t.start t.end × (t.kind ≡ kind_of (slice_range bytes t.start t.end))
StandsLongest bytes (Err (Stray offset)) = (m : ℕ) → offset < m → m ≤ length bytes → is_token (slice_range bytes offset m) ≡ false
StandsLongest bytes (Err (LongNumeral offset)) = (end : ℕ) × IsLongest bytes offset end × (is_digits (slice_range bytes offset end) ≡ true) × (offset + 18 < end)
