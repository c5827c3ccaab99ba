-- What a table of reserved words or signs gives.
use Rattle.std.proofs.Common.{◌≡◌, ◌≢◌, ℕ, ◌<◌, ◌≤◌, Bool, true, false, ◌&&◌, List, [], ◌∷◌, length, drop, nat_lt, nat_eq, Option, Some, refl, ap, arith, length-append}
use Rattle.std.specs.Prelude.{if◌then◌else◌}
use Rattle.std.specs.List.{list_all, list_any, starts_with}
use lib.Pointwise.{pointwise}
use Rattle.std.proofs.lemmas.Slice.Eq.{starts_is}
use Rattle.std.proofs.lemmas.Bool.Decides.{Decides-eqb}
use Rattle.hp_text.specs.Words.{Fixed, is_fixed, reserved_words, signs, kind_among, first_among}
use Rattle.hp_text.specs.declared.token.Kind.{Kind}
use Rattle.hp_text.specs.declared.token.Kind.TheVariants as kinds
use Rattle.hp_text.proofs.Runs.{both_true}

pub fixed_no_name : (k : Kind) → is_fixed k ≡ true → k ≢ kinds.Name
fixed_no_name k f e = let other = ap is_fixed e in cc

pub fixed_no_numeral : (k : Kind) → is_fixed k ≡ true → k ≢ kinds.Numeral
fixed_no_numeral k f e = let other = ap is_fixed e in cc

pub fixed_no_end : (k : Kind) → is_fixed k ≡ true → k ≢ kinds.End
fixed_no_end k f e = let other = ap is_fixed e in cc

-- a table whose texts are not empty and whose kinds are fixed
abbrev pub is_table : List Fixed → Bool
is_table fs = list_all (λ (f : Fixed). is_fixed f.kind && nat_lt 0 (length f.text)) fs

pub words_table : is_table reserved_words ≡ true
words_table = refl

pub signs_table : is_table signs ≡ true
signs_table = refl

-- a word's kind is that of a text of the table, or it is a name and no text of the table
pub record WordIs (fs : List Fixed) (word : List ℕ) (k : Kind) : Type 0 where
  pub numeral : k ≢ kinds.Numeral
  pub last : k ≢ kinds.End
  pub name : k ≡ kinds.Name → list_any (λ (f : Fixed). pointwise nat_eq word f.text) fs ≡ false

word_step : (f : Fixed) (fs : List Fixed) (word : List ℕ) (k : Kind) (v : Bool) → pointwise nat_eq word f.text ≡ v → is_fixed f.kind ≡ true → WordIs fs word k
    → WordIs (f ∷ fs) word (if v then f.kind else k)
word_step f fs word k true e h w = record { numeral = fixed_no_numeral f.kind h; last = fixed_no_end f.kind h; name = λ n. absurd (fixed_no_name f.kind h n) }
word_step f fs word k false e h w = record { numeral = w.numeral; last = w.last; name = λ n. rw e (w.name n) }

pub word_is : (fs : List Fixed) (word : List ℕ) → is_table fs ≡ true → WordIs fs word (kind_among fs word)
word_is [] word t = record { numeral = λ e. cc; last = λ e. cc; name = λ e. refl }
word_is (f ∷ fs) word t =
    let parts = both_true (is_fixed f.kind && nat_lt 0 (length f.text)) _ t in
    word_step f fs word (kind_among fs word) (pointwise nat_eq word f.text) refl (both_true (is_fixed f.kind) _ parts.0).0 (word_is fs word parts.1)

-- a sign that was found: its kind, and its length, which the bytes have
pub record SignIs (bytes : List ℕ) (s : Kind × ℕ) : Type 0 where
  pub fixed : is_fixed s.0 ≡ true
  pub some : 0 < s.1
  pub within : s.1 ≤ length bytes

some_length : (n : ℕ) → nat_lt 0 n ≡ true → 0 < n
some_length n e = grind arith

starts_within : (bytes text : List ℕ) → starts_with nat_eq bytes text ≡ true → length text ≤ length bytes
starts_within bytes text e =
    let whole = (starts_is Decides-eqb bytes text _ refl).0 e in omega (arith, ap length whole, length-append text (drop (length text) bytes))

first_step : (f : Fixed) (bytes : List ℕ) (rest : Option (Kind × ℕ)) (s : Kind × ℕ) (v : Bool) → starts_with nat_eq bytes f.text ≡ v → (is_fixed f.kind && nat_lt 0 (length f.text)) ≡ true
    → (rest ≡ Some s → SignIs bytes s) → (if v then Some (f.kind, length f.text) else rest) ≡ Some s → SignIs bytes s
first_step f bytes rest s true e h more found =
    let parts = both_true (is_fixed f.kind) _ h in
    let kind : f.kind ≡ s.0 = cc in let count : length f.text ≡ s.1 = cc in
    record { fixed = rw (← kind) parts.0; some = rw (← count) (some_length _ parts.1); within = rw (← count) (starts_within bytes f.text e) }
first_step f bytes rest s false e h more found = more found

pub first_is : (fs : List Fixed) (bytes : List ℕ) (s : Kind × ℕ) → is_table fs ≡ true → first_among fs bytes ≡ Some s → SignIs bytes s
first_is [] bytes s t found = absurd (cc)
first_is (f ∷ fs) bytes s t found =
    let parts = both_true (is_fixed f.kind && nat_lt 0 (length f.text)) _ t in
    first_step f bytes (first_among fs bytes) s (starts_with nat_eq bytes f.text) refl parts.0 (first_is fs bytes s parts.1) found
