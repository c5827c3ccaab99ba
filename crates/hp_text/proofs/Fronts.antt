-- What the next token of a text is like: its length, its place, and the form of numerals and names.
use Rattle.std.proofs.Common.{◌≡◌, ◌≢◌, ℕ, ◌+◌, ◌<◌, ◌≤◌, Bool, true, false, not, List, [], ◌∷◌, length, take, drop, nat_le, Option, Some, None, Result, Ok, Err, IfOk, IfErr, refl, sym, ap, subst, ◌∙◌, arith, length-drop}
use Rattle.std.specs.Prelude.{if◌then◌else◌}
use Rattle.std.specs.List.{prefix_len, list_all}
use Rattle.std.proofs.Math.Numerals.{one-add}
use Rattle.std.proofs.lemmas.List.{length-take-le}
use Rattle.std.proofs.lemmas.List.Sums.{prefix_len-le-length}
use Rattle.hp_text.specs.Bytes.{is_digit, is_letter, is_name_byte}
use Rattle.hp_text.specs.Numeral.{IsNumeral}
use Rattle.hp_text.specs.Words.{reserved_words, signs, word_kind, sign_of, is_reserved, is_name, IsName}
use Rattle.hp_text.specs.Tokens.{token, numeral_of, sign_token, front, start_from, next_from}
use Rattle.hp_text.specs.Placed.{text_of, IsPlaced, IsFaultPlaced, offset_of}
use Rattle.hp_text.specs.declared.token.Kind.{Kind}
use Rattle.hp_text.specs.declared.token.Kind.TheVariants as kinds
use Rattle.hp_text.specs.declared.token.Token.{Token}
use Rattle.hp_text.specs.declared.token.TokenErr.{TokenErr}
use Rattle.hp_text.specs.declared.token.TokenErr.TheVariants.{LongNumeral}
use Rattle.hp_text.proofs.Runs.{both, or_left, run_passes, run_begins, gap_within}
use Rattle.hp_text.proofs.Fixeds.{words_table, signs_table, word_is, first_is, fixed_no_name, fixed_no_numeral, fixed_no_end}

-- a token at the front of bytes
pub record IsFront (start : ℕ) (bytes : List ℕ) (t : Token) : Type 0 where
  pub count : ℕ
  pub starts : t.start ≡ start
  pub ends : t.end ≡ start + count
  pub within : count ≤ length bytes
  pub some : t.kind ≢ kinds.End → 0 < count
  pub last : t.kind ≡ kinds.End → (length bytes ≡ 0) × (count ≡ 0)
  pub numeral : t.kind ≡ kinds.Numeral → IsNumeral (take count bytes)
  pub name : t.kind ≡ kinds.Name → IsName (take count bytes)

abbrev pub FrontIs : ℕ → List ℕ → Result Token TokenErr → Type 0
FrontIs start bytes (Ok t) = IsFront start bytes t
FrontIs start bytes (Err e) = (offset_of e ≡ start) × (0 < length bytes)

name_text : (b : ℕ) (bs : List ℕ) → is_letter b ≡ true → is_reserved (take (prefix_len is_name_byte (b ∷ bs)) (b ∷ bs)) ≡ false → IsName (take (prefix_len is_name_byte (b ∷ bs)) (b ∷ bs))
name_text b bs l free =
    let more : prefix_len is_name_byte (b ∷ bs) ≡ 1 + prefix_len is_name_byte bs = run_begins is_name_byte b bs (or_left (is_letter b) _ l) in
    let taken : take (prefix_len is_name_byte (b ∷ bs)) (b ∷ bs) ≡ b ∷ take (prefix_len is_name_byte bs) bs = rw (more, one-add) refl in
    let own : is_reserved (b ∷ take (prefix_len is_name_byte bs) bs) ≡ false = sym (ap is_reserved taken) ∙ free in
    let named : is_name (b ∷ take (prefix_len is_name_byte bs) bs) ≡ true = both (is_letter b) _ l (both (list_all is_name_byte (take (prefix_len is_name_byte bs) bs)) _ (run_passes is_name_byte bs) (ap not own)) in
    ap is_name taken ∙ named

word_front : (start b : ℕ) (bs : List ℕ) → is_letter b ≡ true
    → (let n = prefix_len is_name_byte (b ∷ bs) in IsFront start (b ∷ bs) (token start (word_kind (take n (b ∷ bs))) n))
word_front start b bs l =
    let n = prefix_len is_name_byte (b ∷ bs) in
    let w = word_is reserved_words (take n (b ∷ bs)) words_table in
    record {
      count = n;
      starts = refl;
      ends = refl;
      within = prefix_len-le-length is_name_byte (b ∷ bs);
      some = λ _. omega (arith, run_begins is_name_byte b bs (or_left (is_letter b) _ l));
      last = λ e. absurd (w.last e);
      numeral = λ e. absurd (w.numeral e);
      name = λ e. name_text b bs l (w.name e);
    }

digits_text : (b : ℕ) (bs : List ℕ) → is_digit b ≡ true → nat_le (prefix_len is_digit (b ∷ bs)) 18 ≡ true → IsNumeral (take (prefix_len is_digit (b ∷ bs)) (b ∷ bs))
digits_text b bs d few =
    let n = prefix_len is_digit (b ∷ bs) in
    let long = length-take-le n (b ∷ bs) (prefix_len-le-length is_digit (b ∷ bs)) in
    let begins = run_begins is_digit b bs d in
    let at_most : n ≤ 18 = few_le n few in
    record { some = omega arith; most = omega arith; each = run_passes is_digit (b ∷ bs) }
  where
    few_le : (n : ℕ) → nat_le n 18 ≡ true → n ≤ 18
    few_le n e = grind arith

digits_front : (start b : ℕ) (bs : List ℕ) (v : Bool) → is_digit b ≡ true → nat_le (prefix_len is_digit (b ∷ bs)) 18 ≡ v
    → (let n = prefix_len is_digit (b ∷ bs) in FrontIs start (b ∷ bs) (if v then Ok (token start kinds.Numeral n) else Err (LongNumeral start)))
digits_front start b bs true d few = record {
  count = prefix_len is_digit (b ∷ bs);
  starts = refl;
  ends = refl;
  within = prefix_len-le-length is_digit (b ∷ bs);
  some = λ _. omega (arith, run_begins is_digit b bs d);
  last = λ e. absurd (cc);
  numeral = λ _. digits_text b bs d few;
  name = λ e. absurd (cc);
}
digits_front start b bs false d many = (refl, omega arith)

sign_front : (start b : ℕ) (bs : List ℕ) (s : Option (Kind × ℕ)) → sign_of (b ∷ bs) ≡ s → FrontIs start (b ∷ bs) (sign_token start s)
sign_front start b bs None e = (refl, omega arith)
sign_front start b bs (Some s) e =
    let f = first_is signs (b ∷ bs) s signs_table e in
    record {
      count = s.1;
      starts = refl;
      ends = refl;
      within = f.within;
      some = λ _. f.some;
      last = λ k. absurd (fixed_no_end s.0 f.fixed k);
      numeral = λ k. absurd (fixed_no_numeral s.0 f.fixed k);
      name = λ k. absurd (fixed_no_name s.0 f.fixed k);
    }

front_by : (start b : ℕ) (bs : List ℕ) (v w : Bool) → is_letter b ≡ v → is_digit b ≡ w
    → FrontIs start (b ∷ bs) (if v then (let n = prefix_len is_name_byte (b ∷ bs) in Ok (token start (word_kind (take n (b ∷ bs))) n))
    else (if w then numeral_of start (prefix_len is_digit (b ∷ bs)) else sign_token start (sign_of (b ∷ bs))))
front_by start b bs true w e f = word_front start b bs e
front_by start b bs false true e f = digits_front start b bs _ f refl
front_by start b bs false false e f = sign_front start b bs (sign_of (b ∷ bs)) refl

pub front_is : (start : ℕ) (bytes : List ℕ) → FrontIs start bytes (front start bytes)
front_is start [] = record {
  count = 0;
  starts = refl;
  ends = refl;
  within = omega arith;
  some = λ k. absurd (k refl);
  last = λ _. (refl, refl);
  numeral = λ k. absurd (cc);
  name = λ k. absurd (cc);
}
front_is start (b ∷ bs) = front_by start b bs (is_letter b) (is_digit b) refl refl

placed_at : (bytes : List ℕ) (place start : ℕ) (t : Token) → place ≤ start → start ≤ length bytes → IsFront start (drop start bytes) t → IsPlaced bytes place t
placed_at bytes place start t p s f =
    let long = length-drop start bytes in
    let cut : text_of bytes t ≡ take f.count (drop start bytes) =
    rw (f.starts, f.ends) (ap (λ n. take n (drop start bytes)) (omega arith)) in
    record {
      behind = omega (arith, f.starts);
      within = omega (arith, f.ends, f.within);
      order = omega (arith, f.starts, f.ends);
      some = λ k. omega (arith, f.starts, f.ends, f.some k);
      last = λ k. let e = f.last k in (omega (arith, f.starts, e.0), omega (arith, f.ends, e.0, e.1));
      numeral = λ k. rw cut (f.numeral k);
      name = λ k. ap is_name cut ∙ f.name k;
    }

pub start_within : (bytes : List ℕ) (place : ℕ) → place ≤ length bytes → start_from bytes place ≤ length bytes
start_within bytes place h = omega (arith, gap_within (drop place bytes), length-drop place bytes)

-- the next token stands in the text, at the place or behind it
pub next_placed : (bytes : List ℕ) (place : ℕ) (r : Result Token TokenErr) → place ≤ length bytes → r ≡ next_from bytes place → IfOk r (IsPlaced bytes place)
next_placed bytes place (Ok t) h e =
    placed_at bytes place (start_from bytes place) t (omega arith) (start_within bytes place h) (subst (FrontIs (start_from bytes place) (drop (start_from bytes place) bytes)) (sym e) (front_is (start_from bytes place) (drop (start_from bytes place) bytes)))
next_placed bytes place (Err x) h e = tt

-- and so does a fault
pub fault_placed : (bytes : List ℕ) (place : ℕ) (r : Result Token TokenErr) → place ≤ length bytes → r ≡ next_from bytes place → IfErr r (IsFaultPlaced bytes place)
fault_placed bytes place (Ok t) h e = tt
fault_placed bytes place (Err x) h e =
    let start = start_from bytes place in
    let f : (offset_of x ≡ start) × (0 < length (drop start bytes)) = subst (FrontIs start (drop start bytes)) (sym e) (front_is start (drop start bytes)) in
    record { behind = omega (arith, f.0); within = omega (arith, f.0, f.1, length-drop start bytes, start_within bytes place h) }
