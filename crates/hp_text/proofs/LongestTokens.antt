-- The next token is the longest piece of the text that spells one.
use Rattle.std.proofs.Common.{◌≡◌, ◌≢◌, ℕ, zero, suc, ◌+◌, ◌-◌, ◌<◌, ◌≤◌, Bool, true, false, not, ◌&&◌, List, [], ◌∷◌, length, take, drop, nat_eq, nat_le, Option, Some, None, Result, Ok, Err, refl, sym, ap, subst, ◌∙◌, arith, length-drop}
use Rattle.std.specs.Prelude.{if◌then◌else◌, slice_range}
use Rattle.std.specs.List.{prefix_len, list_all}
use lib.Pointwise.{pointwise}
use Rattle.std.proofs.Math.Numerals.{one-add}
use Rattle.std.proofs.lemmas.List.{length-take-le, get_or-take}
use Rattle.std.proofs.lemmas.List.Folds.{list_all_at}
use Rattle.std.proofs.lemmas.List.Sums.{prefix_len_stops}
use Rattle.hp_text.specs.Bytes.{is_digit, is_letter, is_name_byte}
use Rattle.hp_text.specs.Words.{Fixed, signs, word_kind, sign_of}
use Rattle.hp_text.specs.Tokens.{token, numeral_of, sign_token, front, start_from, next_from}
use Rattle.hp_text.specs.Longest.{is_word, is_digits, is_sign, is_token, kind_of, IsLongest, StandsLongest}
use Rattle.hp_text.specs.declared.token.Kind.{Kind}
use Rattle.hp_text.specs.declared.token.Kind.TheVariants as kinds
use Rattle.hp_text.specs.declared.token.Token.{Token}
use Rattle.hp_text.specs.declared.token.TokenErr.{TokenErr}
use Rattle.hp_text.specs.declared.token.TokenErr.TheVariants.{Stray, LongNumeral}
use Rattle.hp_text.proofs.Runs.{both, both_true, or_left, run_passes, run_begins}
use Rattle.hp_text.proofs.Fixeds.{signs_table, first_is}
use Rattle.hp_text.proofs.Fronts.{start_within}
use Rattle.hp_text.proofs.LongestSigns.{same_text, not_true, neither, is_among, none_among, found_is, signs_ordered}

not_left : (a b : Bool) → a ≡ false → (a && b) ≡ false
not_left false b e = refl
not_left true b e = absurd (cc)

not_right : (a b : Bool) → a ≡ true → (a && b) ≡ false → b ≡ false
not_right true b e f = f
not_right false b e f = absurd (cc)

and_false : (a b : Bool) → b ≡ false → (a && b) ≡ false
and_false true b e = e
and_false false b e = refl

-- no byte is a letter and a digit
letter_no_digit : (b : ℕ) → is_letter b ≡ true → is_digit b ≡ false
letter_no_digit b e = grind arith

-- a piece that goes on behind a run has a byte of another class
past_run : (p : ℕ → Bool) (xs : List ℕ) (m : ℕ) → prefix_len p xs < m → m ≤ length xs → list_all p (take m xs) ≡ false
past_run p xs m h fits =
    let stops = prefix_len_stops p xs 0 (omega arith) in
    list_all_at p (take m xs) (prefix_len p xs) 0 (omega (arith, length-take-le m xs fits)) (ap p (get_or-take m xs (prefix_len p xs) 0 h) ∙ stops)

-- the first byte is of the class
abbrev pub begins_with : (ℕ → Bool) → List ℕ → Bool
begins_with p [] = false
begins_with p (c ∷ cs) = p c

-- no sign begins with such a byte
no_sign_among : (p : ℕ → Bool) (b : ℕ) (rest : List ℕ) (fs : List Fixed) → p b ≡ true → list_all (λ (f : Fixed). not (begins_with p f.text)) fs ≡ true → is_among fs (b ∷ rest) ≡ false
no_sign_among p b rest [] e free = refl
no_sign_among p b rest (f ∷ fs) e free =
    let parts = both_true (not (begins_with p f.text)) _ free in
    neither (pointwise nat_eq (b ∷ rest) f.text) _
    (not_true _ (λ t. let same = same_text (b ∷ rest) f.text t in let begins : begins_with p f.text ≡ true = ap (begins_with p) (sym same) ∙ e in
    let other = ap not begins in cc))
    (no_sign_among p b rest fs e parts.1)

letter_no_sign : (b : ℕ) (rest : List ℕ) → is_letter b ≡ true → is_sign (b ∷ rest) ≡ false
letter_no_sign b rest e = no_sign_among is_letter b rest signs e refl

digit_no_sign : (b : ℕ) (rest : List ℕ) → is_digit b ≡ true → is_sign (b ∷ rest) ≡ false
digit_no_sign b rest e = no_sign_among is_digit b rest signs e refl

-- in front of these bytes the piece of this length is the longest that spells a token
pub record IsLongestFront (xs : List ℕ) (count : ℕ) : Type 0 where
  pub spelled : is_token (take count xs) ≡ true
  pub longest : (m : ℕ) → count < m → m ≤ length xs → is_token (take m xs) ≡ false

no_token : (text : List ℕ) → is_word text ≡ false → is_digits text ≡ false → is_sign text ≡ false → is_token text ≡ false
no_token text w d s = neither (is_word text) _ w (neither (is_digits text) _ d s)

word_spelled : (b : ℕ) (bs : List ℕ) → is_letter b ≡ true → is_word (take (prefix_len is_name_byte (b ∷ bs)) (b ∷ bs)) ≡ true
word_spelled b bs l =
    let more = run_begins is_name_byte b bs (or_left (is_letter b) _ l) in
    let taken : take (prefix_len is_name_byte (b ∷ bs)) (b ∷ bs) ≡ b ∷ take (prefix_len is_name_byte bs) bs = rw (more, one-add) refl in
    ap is_word taken ∙ both (is_letter b) _ l (run_passes is_name_byte bs)

digits_spelled : (b : ℕ) (bs : List ℕ) → is_digit b ≡ true → is_digits (take (prefix_len is_digit (b ∷ bs)) (b ∷ bs)) ≡ true
digits_spelled b bs d =
    let more = run_begins is_digit b bs d in
    let taken : take (prefix_len is_digit (b ∷ bs)) (b ∷ bs) ≡ b ∷ take (prefix_len is_digit bs) bs = rw (more, one-add) refl in
    ap is_digits taken ∙ both (is_digit b) _ d (run_passes is_digit bs)

past_word : (b : ℕ) (bs : List ℕ) (m : ℕ) → is_letter b ≡ true → prefix_len is_name_byte (b ∷ bs) < m → m ≤ length (b ∷ bs) → is_token (take m (b ∷ bs)) ≡ false
past_word b bs zero l h fits = absurd (omega arith)
past_word b bs (suc m) l h fits =
    let past : (is_name_byte b && list_all is_name_byte (take m bs)) ≡ false = past_run is_name_byte (b ∷ bs) (suc m) h fits in
    no_token (b ∷ take m bs) (and_false (is_letter b) _ (not_right (is_name_byte b) _ (or_left (is_letter b) _ l) past)) (not_left (is_digit b) _ (letter_no_digit b l)) (letter_no_sign b (take m bs) l)

past_digits : (b : ℕ) (bs : List ℕ) (m : ℕ) → is_letter b ≡ false → is_digit b ≡ true → prefix_len is_digit (b ∷ bs) < m → m ≤ length (b ∷ bs) → is_token (take m (b ∷ bs)) ≡ false
past_digits b bs zero l d h fits = absurd (omega arith)
past_digits b bs (suc m) l d h fits =
    no_token (b ∷ take m bs) (not_left (is_letter b) _ l) (past_run is_digit (b ∷ bs) (suc m) h fits) (digit_no_sign b (take m bs) d)

no_word : (b : ℕ) (bs : List ℕ) (m : ℕ) → is_letter b ≡ false → is_word (take m (b ∷ bs)) ≡ false
no_word b bs zero l = refl
no_word b bs (suc m) l = not_left (is_letter b) _ l

no_digits : (b : ℕ) (bs : List ℕ) (m : ℕ) → is_digit b ≡ false → is_digits (take m (b ∷ bs)) ≡ false
no_digits b bs zero d = refl
no_digits b bs (suc m) d = not_left (is_digit b) _ d

-- the next token in front of these bytes, by its length
abbrev pub FrontLongest : ℕ → List ℕ → Result Token TokenErr → Type 0
FrontLongest start xs (Ok t) = t.kind ≢ kinds.End → (n : ℕ) × (t.start ≡ start) × (t.end ≡ start + n) × IsLongestFront xs n × (t.kind ≡ kind_of (take n xs))
FrontLongest start xs (Err (Stray offset)) = (offset ≡ start) × ((m : ℕ) → 0 < m → m ≤ length xs → is_token (take m xs) ≡ false)
FrontLongest start xs (Err (LongNumeral offset)) = (offset ≡ start) × ((n : ℕ) × IsLongestFront xs n × (is_digits (take n xs) ≡ true) × (18 < n))

word_longest : (start b : ℕ) (bs : List ℕ) → is_letter b ≡ true
    → (let n = prefix_len is_name_byte (b ∷ bs) in FrontLongest start (b ∷ bs) (Ok (token start (word_kind (take n (b ∷ bs))) n)))
word_longest start b bs l = λ k.
    let n = prefix_len is_name_byte (b ∷ bs) in
    let w = word_spelled b bs l in
    (n, refl, refl, record { spelled = or_left (is_word (take n (b ∷ bs))) _ w; longest = λ m h fits. past_word b bs m l h fits }, rw w refl)

digits_longest_front : (b : ℕ) (bs : List ℕ) → is_letter b ≡ false → is_digit b ≡ true → IsLongestFront (b ∷ bs) (prefix_len is_digit (b ∷ bs))
digits_longest_front b bs l d =
    let n = prefix_len is_digit (b ∷ bs) in
    record { spelled = rw (no_word b bs n l, digits_spelled b bs d) refl; longest = λ m h fits. past_digits b bs m l d h fits }

more_than : (n : ℕ) → nat_le n 18 ≡ false → 18 < n
more_than n e = grind arith

digits_longest : (start b : ℕ) (bs : List ℕ) (v : Bool) → is_letter b ≡ false → is_digit b ≡ true → nat_le (prefix_len is_digit (b ∷ bs)) 18 ≡ v
    → (let n = prefix_len is_digit (b ∷ bs) in FrontLongest start (b ∷ bs) (if v then Ok (token start kinds.Numeral n) else Err (LongNumeral start)))
digits_longest start b bs true l d few = λ k.
    (prefix_len is_digit (b ∷ bs), refl, refl, digits_longest_front b bs l d, rw (no_word b bs (prefix_len is_digit (b ∷ bs)) l, digits_spelled b bs d) refl)
digits_longest start b bs false l d many = (refl, (prefix_len is_digit (b ∷ bs), digits_longest_front b bs l d, digits_spelled b bs d, more_than _ many))

sign_longest : (start b : ℕ) (bs : List ℕ) (s : Option (Kind × ℕ)) → is_letter b ≡ false → is_digit b ≡ false → sign_of (b ∷ bs) ≡ s → FrontLongest start (b ∷ bs) (sign_token start s)
sign_longest start b bs None l d e =
    (refl, λ m some fits. no_token (take m (b ∷ bs)) (no_word b bs m l) (no_digits b bs m d) (none_among signs (b ∷ bs) m fits e))
sign_longest start b bs (Some s) l d e = λ k.
    let f = first_is signs (b ∷ bs) s signs_table e in
    let found = found_is signs (b ∷ bs) s signs_ordered f.within e in (
      s.1,
      refl,
      refl,
      record {
        spelled = rw (no_word b bs s.1 l, no_digits b bs s.1 d) found.among;
        longest = λ m h fits. no_token (take m (b ∷ bs)) (no_word b bs m l) (no_digits b bs m d) (found.longest m h fits);
      },
      rw (no_word b bs s.1 l, no_digits b bs s.1 d) (sym found.kind),
    )

longest_by : (start b : ℕ) (bs : List ℕ) (v w : Bool) → is_letter b ≡ v → is_digit b ≡ w
    → FrontLongest start (b ∷ bs) (if v then (let n = prefix_len is_name_byte (b ∷ bs) in Ok (token start (word_kind (take n (b ∷ bs))) n))
    else (if w then numeral_of start (prefix_len is_digit (b ∷ bs)) else sign_token start (sign_of (b ∷ bs))))
longest_by start b bs true w e f = word_longest start b bs e
longest_by start b bs false true e f = digits_longest start b bs _ e f refl
longest_by start b bs false false e f = sign_longest start b bs (sign_of (b ∷ bs)) e f refl

pub front_longest : (start : ℕ) (xs : List ℕ) → FrontLongest start xs (front start xs)
front_longest start [] = λ k. absurd (k refl)
front_longest start (b ∷ bs) = longest_by start b bs (is_letter b) (is_digit b) refl refl

-- the same in the whole text
piece : (bytes : List ℕ) (start m n : ℕ) → m ≡ start + n → slice_range bytes start m ≡ take n (drop start bytes)
piece bytes start m n e = ap (λ z. take z (drop start bytes)) (omega arith)

longest_in : (bytes : List ℕ) (start end n : ℕ) → start ≤ length bytes → end ≡ start + n → IsLongestFront (drop start bytes) n → IsLongest bytes start end
longest_in bytes start end n h e f = record {
  spelled = ap is_token (piece bytes start end n e) ∙ f.spelled;
  longest = λ m more fits. ap is_token (piece bytes start m (m - start) (omega arith)) ∙ f.longest (m - start) (omega arith) (omega (arith, length-drop start bytes));
}

in_whole : (bytes : List ℕ) (start : ℕ) (r : Result Token TokenErr) → start ≤ length bytes → FrontLongest start (drop start bytes) r → StandsLongest bytes r
in_whole bytes start (Ok t) h f = λ k.
    let g = f k in
    (rw g.1 (longest_in bytes start t.end g.0 h g.2 g.3), rw g.1 (g.4 ∙ ap kind_of (sym (piece bytes start t.end g.0 g.2))))
in_whole bytes start (Err (Stray offset)) h f = λ m more fits.
    rw f.0 (ap is_token (piece bytes start m (m - start) (omega (arith, f.0))) ∙ f.1 (m - start) (omega (arith, f.0)) (omega (arith, length-drop start bytes)))
in_whole bytes start (Err (LongNumeral offset)) h f =
    let g = f.1 in (
      start + g.0,
      rw f.0 (longest_in bytes start (start + g.0) g.0 h refl g.1),
      rw f.0 (ap is_digits (piece bytes start (start + g.0) g.0 refl) ∙ g.2),
      omega (arith, f.0, g.3),
    )

pub next_longest : (bytes : List ℕ) (place : ℕ) (r : Result Token TokenErr) → place ≤ length bytes → r ≡ next_from bytes place → StandsLongest bytes r
next_longest bytes place r h e =
    let start = start_from bytes place in
    in_whole bytes start r (start_within bytes place h) (subst (FrontLongest start (drop start bytes)) (sym e) (front_longest start (drop start bytes)))

-- the same of a text that is seen as these bytes
pub seen_longest : (bytes seen : List ℕ) (place : ℕ) (r : Result Token TokenErr) → bytes ≡ seen → place ≤ length bytes → r ≡ next_from bytes place → StandsLongest seen r
seen_longest bytes seen place r s h e = subst (λ (b : List ℕ). StandsLongest b r) s (next_longest bytes place r h e)
