-- The reserved words, names and numerals of a printed text.
use Rattle.std.proofs.Common.{◌≡◌, ℕ, ◌+◌, ◌*◌, ◌-◌, ◌/◌, ◌%◌, ◌^◌, ◌<◌, ◌≤◌, Bool, true, false, not, ◌||◌, List, [], ◌∷◌, ◌++◌, length, nat_eq, Ok, refl, ap, ◌∙◌, arith, lit<}
use Rattle.std.specs.Prelude.{◌==◌}
use Rattle.std.specs.List.{list_all, list_any}
use Rattle.std.specs.Fmt.{decimal}
use Rattle.std.proofs.lemmas.Fmt.{decimal_by_steps, length-decimal-le}
use Rattle.std.proofs.lemmas.List.Folds.{list_all-append}
use Rattle.std.proofs.lemmas.List.Sums.{fold-append}
use lib.Pointwise.{pointwise}
use Rattle.hp_text.specs.declared.token.Kind.{Kind}
use Rattle.hp_text.specs.declared.token.Kind.TheVariants as kinds
use Rattle.hp_text.specs.Bytes.{is_blank, is_digit, is_letter, is_name_byte}
use Rattle.hp_text.specs.Numeral.{numeral_value}
use Rattle.hp_text.specs.Words.{Fixed, is_fixed, reserved_words, kind_among, word_kind, is_name, is_reserved}
use Rattle.hp_text.specs.Tokens.{token, front}
use Rattle.hp_text.specs.Longest.{is_word, is_digits}
use Rattle.hp_text.proofs.LongestTokens.{begins_with}
use Rattle.hp_text.proofs.Pieces.{front_word, front_digits}
use Rattle.hp_text.proofs.Runs.{both, both_true}
use Rattle.hp_grammar.specs.declared.symbol.Symbol.TheVariants.{Word as word, Name as name, Numeral as numeral}
use Rattle.hp_roundtrip.proofs.Cutting.{bare}
use Rattle.hp_roundtrip.proofs.Pieces.{Stops, IsPiece}
use Rattle.hp_roundtrip.proofs.Signs.{one}

-- ---- words
letter_apart : (b : ℕ) → is_letter b ≡ true → ((b == 35) ≡ false) × (is_blank b ≡ false)
letter_apart b e = (grind arith, grind arith)

digit_apart : (b : ℕ) → is_digit b ≡ true → ((b == 35) ≡ false) × (is_blank b ≡ false)
digit_apart b e = (grind arith, grind arith)

bare_apart : (b : ℕ) (bs : List ℕ) → (b == 35) ≡ false → is_blank b ≡ false → bare (b ∷ bs) ≡ b ∷ bs
bare_apart b bs e f = rw (e, f) refl

bare_word : (text rest : List ℕ) → is_word text ≡ true → bare (text ++ rest) ≡ text ++ rest
bare_word [] rest e = absurd (cc)
bare_word (b ∷ bs) rest e = let h = letter_apart b (both_true (is_letter b) _ e).0 in bare_apart b (bs ++ rest) h.0 h.1

bare_digits : (text rest : List ℕ) → is_digits text ≡ true → bare (text ++ rest) ≡ text ++ rest
bare_digits [] rest e = absurd (cc)
bare_digits (b ∷ bs) rest e = let h = digit_apart b (both_true (is_digit b) _ e).0 in bare_apart b (bs ++ rest) h.0 h.1

-- a reserved word
pub reserved : (text : List ℕ) (k : Kind) → is_word text ≡ true → word_kind text ≡ k → is_fixed k ≡ true → IsPiece text (word k ∷ [])
reserved text k w e h = record {
  cuts = λ rest s. one text rest k (bare_word text rest w) (λ start. front_word start text rest w s ∙ ap (λ (k : Kind). Ok (token start k (length text))) e) h;
}

either_false : (a b : Bool) → (a || b) ≡ false → (a ≡ false) × (b ≡ false)
either_false true b e = absurd (cc)
either_false false b e = (refl, e)

kind_none : (fs : List Fixed) (text : List ℕ) → list_any (λ (f : Fixed). pointwise nat_eq text f.text) fs ≡ false → kind_among fs text ≡ kinds.Name
kind_none [] text e = refl
kind_none (f ∷ fs) text e = let parts = either_false (pointwise nat_eq text f.text) _ e in rw parts.0 (kind_none fs text parts.1)

pub not_false : (v : Bool) → not v ≡ true → v ≡ false
not_false true e = absurd (cc)
not_false false e = refl

-- a name has the form of a word, and is not reserved
name_parts : (text : List ℕ) → is_name text ≡ true → (is_word text ≡ true) × (is_reserved text ≡ false)
name_parts [] e = absurd (cc)
name_parts (b ∷ bs) e =
    let first = both_true (is_letter b) _ e in
    let others = both_true (list_all is_name_byte bs) _ first.1 in
    (both (is_letter b) _ first.0 others.0, not_false _ others.1)

-- a name
pub named : (text : List ℕ) → is_name text ≡ true → IsPiece text (name text ∷ [])
named text e = record {
  cuts = λ rest s.
      let parts = name_parts text e in
      let kind : word_kind text ≡ kinds.Name = kind_none reserved_words text parts.1 in
      let plain = bare_word text rest parts.0 in (
        rest,
        record {
          kind = kinds.Name;
          text = text;
          cut = plain;
          first = λ start. ap (front start) plain ∙ front_word start text rest parts.0 s ∙ ap (λ (k : Kind). Ok (token start k (length text))) kind;
          inner = λ f. absurd (cc);
          says = refl;
        },
        refl,
      );
}

-- ---- numerals
-- digits that write a number
record Writes (n : ℕ) (ds : List ℕ) : Type 0 where
  pub digits : is_digits ds ≡ true
  pub value : numeral_value ds ≡ n

digit_of : (n : ℕ) → n < 10 → is_digit (48 + n) ≡ true
digit_of n h = grind arith

digits_more : (ds : List ℕ) (d : ℕ) → is_digits ds ≡ true → is_digit d ≡ true → is_digits (ds ++ d ∷ []) ≡ true
digits_more [] d e h = absurd (cc)
digits_more (b ∷ bs) d e h =
    let parts = both_true (is_digit b) _ e in
    let last : list_all is_digit (d ∷ []) ≡ true = both (is_digit d) true h refl in
    both (is_digit b) _ parts.0 (list_all-append is_digit bs (d ∷ []) ∙ both (list_all is_digit bs) _ parts.1 last)

writes_one : (n : ℕ) → n < 10 → Writes n ((48 + n) ∷ [])
writes_one n h = record { digits = both (is_digit (48 + n)) true (digit_of n h) refl; value = omega arith }

writes_more : (n : ℕ) (ds : List ℕ) → 10 ≤ n → Writes (n / 10) ds → Writes n (ds ++ ((48 + n % 10) ∷ []))
writes_more n ds h w = record {
  digits = digits_more ds (48 + n % 10) w.digits (digit_of (n % 10) (omega arith));
  value = fold-append (λ n d. 10 * n + (d - 48)) 0 ds ((48 + n % 10) ∷ []) ∙ omega (arith, w.value);
}

below_wide : (n : ℕ) → n < 10 ^ 18 → n < 2 ^ 64
below_wide n h = let fits : 10 ^ 18 < 2 ^ 64 = lit< tt in omega arith

no_digit : (rest : List ℕ) → Stops rest → begins_with is_digit rest ≡ false
no_digit [] s = refl
no_digit (b ∷ bs) s = (either_false (is_digit b) _ (either_false (is_letter b) _ s).1).0

-- the text of a number has digits alone
pub decimal_digits : (n : ℕ) → n < 10 ^ 18 → is_digits (decimal n) ≡ true
decimal_digits n h = (decimal_by_steps Writes writes_one writes_more n (below_wide n h)).digits

-- a number of at most 18 digits
pub counted : (n : ℕ) → n < 10 ^ 18 → IsPiece (decimal n) (numeral n ∷ [])
counted n h = record {
  cuts = λ rest s.
      let wide = below_wide n h in
      let writes = decimal_by_steps Writes writes_one writes_more n wide in
      let few = length-decimal-le 18 n (omega arith) h wide in
      let plain = bare_digits (decimal n) rest writes.digits in (
        rest,
        record {
          kind = kinds.Numeral;
          text = decimal n;
          cut = plain;
          first = λ start. ap (front start) plain ∙ front_digits start (decimal n) rest writes.digits few (no_digit rest s);
          inner = λ f. absurd (cc);
          says = ap numeral writes.value;
        },
        refl,
      );
}
