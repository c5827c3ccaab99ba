-- A minus in front of a text that makes no arrow of it.
use Rattle.std.proofs.Common.{◌≡◌, ℕ, ◌^◌, ◌<◌, Bool, true, false, not, List, [], ◌∷◌, ◌++◌, nat_eq, Ok, refl, arith}
use Rattle.std.specs.Fmt.{decimal}
use Rattle.hp_text.specs.declared.token.Kind.TheVariants as kinds
use Rattle.hp_text.specs.Bytes.{is_digit, is_letter}
use Rattle.hp_text.specs.Words.{is_name}
use Rattle.hp_text.specs.Tokens.{token, front}
use Rattle.hp_text.specs.Longest.{is_digits}
use Rattle.hp_text.proofs.Runs.{both_true}
use Rattle.hp_grammar.specs.declared.symbol.Symbol.{Symbol as Token}
use Rattle.hp_grammar.specs.declared.symbol.Symbol.TheVariants.{Word as word}
use Rattle.hp_roundtrip.proofs.Cutting.{cuts_join}
use Rattle.hp_roundtrip.proofs.Pieces.{IsPiece}
use Rattle.hp_roundtrip.proofs.Signs.{one}
use Rattle.hp_roundtrip.proofs.Words.{not_false, decimal_digits}

-- the text is not empty, and does not begin with `>`
abbrev pub opens : List ℕ → Bool
opens [] = false
opens (b ∷ bs) = not (nat_eq 62 b)

pub opens_more : (a b : List ℕ) → opens a ≡ true → opens (a ++ b) ≡ true
opens_more [] b e = absurd (cc)
opens_more (x ∷ xs) b e = e

letter_opens : (b : ℕ) → is_letter b ≡ true → not (nat_eq 62 b) ≡ true
letter_opens b e = grind arith

digit_opens : (b : ℕ) → is_digit b ≡ true → not (nat_eq 62 b) ≡ true
digit_opens b e = grind arith

pub name_opens : (text : List ℕ) → is_name text ≡ true → opens text ≡ true
name_opens [] e = absurd (cc)
name_opens (b ∷ bs) e = letter_opens b (both_true (is_letter b) _ e).0

digits_open : (text : List ℕ) → is_digits text ≡ true → opens text ≡ true
digits_open [] e = absurd (cc)
digits_open (b ∷ bs) e = digit_opens b (both_true (is_digit b) _ e).0

pub number_opens : (n : ℕ) → n < 10 ^ 18 → opens (decimal n) ≡ true
number_opens n h = digits_open (decimal n) (decimal_digits n h)

minus_front : (start : ℕ) (text : List ℕ) → opens text ≡ true → front start (45 ∷ text) ≡ Ok (token start kinds.Minus 1)
minus_front start [] e = absurd (cc)
minus_front start (b ∷ bs) e = let other = not_false _ e in rw other refl

-- a minus in front of a text
pub minus : {b : List ℕ} {us : List Token} → opens b ≡ true → IsPiece b us → IsPiece (45 ∷ b) (word kinds.Minus ∷ us)
minus {b} {us} o p = record {
  cuts = λ rest h. cuts_join (45 ∷ (b ++ rest)) (b ++ rest) rest (word kinds.Minus ∷ []) us
      (one (45 ∷ []) (b ++ rest) kinds.Minus refl (λ start. minus_front start (b ++ rest) (opens_more b rest o)) refl) (p.cuts rest h);
}
