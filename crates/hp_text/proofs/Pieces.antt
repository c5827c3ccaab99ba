-- The next token of a text that is put together from pieces.
use Rattle.std.proofs.Common.{◌≡◌, ℕ, suc, ◌+◌, ◌*◌, ◌-◌, ◌^◌, ◌<◌, ◌≤◌, Bool, true, false, List, [], ◌∷◌, ◌++◌, length, take, drop, nat_le, Ok, refl, ap, ◌∙◌, arith}
use Rattle.std.specs.List.{prefix_len, list_all, fold}
use Rattle.std.proofs.Math.Nat.{mul-le-mul_right, pow-suc}
use Rattle.std.proofs.Math.Numerals.{one-add}
use Rattle.std.proofs.Math.Seq.{take-append_seam, drop-append_seam, drop-append-add}
use Rattle.hp_text.specs.Bytes.{is_digit, is_letter, is_name_byte}
use Rattle.hp_text.specs.Numeral.{numeral_value}
use Rattle.hp_text.specs.Words.{word_kind}
use Rattle.hp_text.specs.Tokens.{gap, token, numeral_of, front, start_from, next_from}
use Rattle.hp_text.specs.Longest.{is_word, is_digits}
use Rattle.hp_text.specs.declared.token.Kind.TheVariants as kinds
use Rattle.hp_text.proofs.Runs.{both, both_true, or_left}
use Rattle.hp_text.proofs.LongestTokens.{begins_with}

-- a run that something else ends
pub run_whole : (p : ℕ → Bool) (xs rest : List ℕ) → list_all p xs ≡ true → begins_with p rest ≡ false → prefix_len p (xs ++ rest) ≡ length xs
run_whole p [] [] e n = refl
run_whole p [] (r ∷ rest) e n = rw n refl
run_whole p (x ∷ xs) rest e n = (let parts = both_true (p x) _ e in rw (parts.0, run_whole p xs rest parts.1 n, one-add) refl)

few_are : (n : ℕ) → n ≤ 18 → nat_le n 18 ≡ true
few_are n h = grind arith

letter_front : (start b : ℕ) (bs : List ℕ) → is_letter b ≡ true
    → front start (b ∷ bs) ≡ Ok (token start (word_kind (take (prefix_len is_name_byte (b ∷ bs)) (b ∷ bs))) (prefix_len is_name_byte (b ∷ bs)))
letter_front start b bs e = rw e refl

digit_front : (start b : ℕ) (bs : List ℕ) → is_letter b ≡ false → is_digit b ≡ true → front start (b ∷ bs) ≡ numeral_of start (prefix_len is_digit (b ∷ bs))
digit_front start b bs e d = rw (e, d) refl

few_digits : (start n : ℕ) → n ≤ 18 → numeral_of start n ≡ Ok (token start kinds.Numeral n)
few_digits start n h = rw (few_are n h) refl

-- a word in front, which no name byte follows
pub front_word : (start : ℕ) (word rest : List ℕ) → is_word word ≡ true → begins_with is_name_byte rest ≡ false → front start (word ++ rest) ≡ Ok (token start (word_kind word) (length word))
front_word start [] rest w n = absurd (cc)
front_word start (b ∷ bs) rest w n =
    let parts = both_true (is_letter b) _ w in
    let each : list_all is_name_byte (b ∷ bs) ≡ true = both (is_name_byte b) _ (or_left (is_letter b) _ parts.0) parts.1 in
    let long : prefix_len is_name_byte ((b ∷ bs) ++ rest) ≡ length (b ∷ bs) = run_whole is_name_byte (b ∷ bs) rest each n in
    let cut : take (length (b ∷ bs)) ((b ∷ bs) ++ rest) ≡ b ∷ bs = take-append_seam (b ∷ bs) rest in
    letter_front start b (bs ++ rest) parts.0
    ∙ ap (λ (n : ℕ). Ok (token start (word_kind (take n ((b ∷ bs) ++ rest))) n)) long ∙ ap (λ (z : List ℕ). Ok (token start (word_kind z) (length (b ∷ bs)))) cut

-- where the next token begins behind a piece
pub next_behind : (before rest : List ℕ) → next_from (before ++ rest) (length before) ≡ front (length before + gap rest) (drop (gap rest) rest)
next_behind before rest =
    let tail : drop (length before) (before ++ rest) ≡ rest = drop-append_seam before rest in
    let start : start_from (before ++ rest) (length before) ≡ length before + gap rest = ap (λ (z : List ℕ). length before + gap z) tail in
    let cut : drop (length before + gap rest) (before ++ rest) ≡ drop (gap rest) rest = drop-append-add before rest (gap rest) in
    ap (λ (s : ℕ). front s (drop s (before ++ rest))) start ∙ ap (front (length before + gap rest)) cut

digit_no_letter : (b : ℕ) → is_digit b ≡ true → is_letter b ≡ false
digit_no_letter b e = grind arith

digit_small : (d : ℕ) → is_digit d ≡ true → d ≤ 57
digit_small d e = grind arith

-- 1 to 18 digits in front, which no digit follows
pub front_digits : (start : ℕ) (digits rest : List ℕ) → is_digits digits ≡ true → length digits ≤ 18 → begins_with is_digit rest ≡ false
    → front start (digits ++ rest) ≡ Ok (token start kinds.Numeral (length digits))
front_digits start [] rest w few n = absurd (cc)
front_digits start (b ∷ bs) rest w few n =
    let long : prefix_len is_digit ((b ∷ bs) ++ rest) ≡ length (b ∷ bs) = run_whole is_digit (b ∷ bs) rest w n in
    let parts = both_true (is_digit b) _ w in
    digit_front start b (bs ++ rest) (digit_no_letter b parts.0) parts.0 ∙ ap (numeral_of start) long ∙ few_digits start (length (b ∷ bs)) few

numeral_step : (ds : List ℕ) (a : ℕ) → list_all is_digit ds ≡ true → fold (λ n d. 10 * n + (d - 48)) a ds < (a + 1) * 10 ^ length ds
numeral_step [] a e = omega arith
numeral_step (d ∷ ds) a e =
    let parts = both_true (is_digit d) _ e in
    let small : d ≤ 57 = digit_small d parts.0 in
    let rest = numeral_step ds (10 * a + (d - 48)) parts.1 in
    let most : (10 * a + (d - 48) + 1) * 10 ^ length ds ≤ (10 * (a + 1)) * 10 ^ length ds = mul-le-mul_right (10 ^ length ds) (omega arith) in
    let grows : (a + 1) * 10 ^ suc (length ds) ≡ (10 * (a + 1)) * 10 ^ length ds = rw pow-suc (omega arith) in
    omega arith

-- digits write a number below the power of ten that has one digit more
pub numeral_below : (ds : List ℕ) → list_all is_digit ds ≡ true → numeral_value ds < 10 ^ length ds
numeral_below ds e = omega (arith, numeral_step ds 0 e)
