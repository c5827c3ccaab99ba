-- The words of names are distinct, and each stands for its name.
use Rattle.std.proofs.Common.{◌≡◌, ℕ, zero, suc, ◌+◌, ◌<◌, ◌^◌, ◌++◌, ◌||◌, Bool, true, false, not, cond, nat_lt, List, [], ◌∷◌, length, Some, None, slice_get, refl, sym, ap, ◌∙◌, arith, true≢false, append_assoc, append-nil, length-append}
use Rattle.std.specs.List.{All, prefix_len}
use Rattle.std.specs.Option.{option_map}
use Rattle.std.specs.Prelude.{position}
use Rattle.std.specs.Str.{all_ascii_digits, bytes_eq}
use Rattle.std.proofs.lemmas.Bool.{or_parts}
use Rattle.std.proofs.lemmas.Bool.Decides.{Decides-ltb}
use Rattle.std.proofs.lemmas.Fmt.{digits_decimal, decimal_injective}
use Rattle.std.proofs.lemmas.List.{length-map}
use Rattle.std.proofs.lemmas.List.Elements.{All-head, All-tail}
use Rattle.std.proofs.lemmas.List.Folds.{list_any-append}
use Rattle.std.proofs.lemmas.Option.{slice_get_within}
use Rattle.std.proofs.lemmas.Str.Parse.{numerals_by_value, tells_all_ascii_digits}
use Rattle.hp_tree.specs.Value.{Word}
use Rattle.hp_terms.specs.Words.{IsPlainWord, is_made_word, made_word, numbered}
use Rattle.hp_names.specs.Names.{AreDistinct, is_among}
use Rattle.hp_names.proofs.Distinct.{absent}
use Rattle.hp_names.proofs.Texts.{apart_back, same_text, text_same}
use Rattle.hp_lit.specs.declared.literal.Name.{Name}
use Rattle.hp_lit.specs.Words.{number}
use Rattle.hp_defs.specs.Made.{IsMade}
use Rattle.hp_lit.specs.declared.line.Body.{Body}
use Rattle.hp_lit.specs.declared.line.Def.{Def}
use Rattle.hp_defs.specs.Names.{NameList, constant_name, constant_words, count, next, with_definition, words}

-- ---- words of definitions
abbrev rest : Word → Word
rest [] = []
rest (c ∷ cs) = cs

-- the words of different definitions differ
pub made_inject : (m n : ℕ) → m < 2 ^ 64 → n < 2 ^ 64 → made_word m ≡ made_word n → m ≡ n
made_inject m n p q e = decimal_injective m n p q (ap rest e)

-- the word of a definition is no plain word
pub is_made : (n : ℕ) → n < 2 ^ 64 → is_made_word (made_word n) ≡ true
is_made n p = digits_decimal (numerals_by_value (λ ds. all_ascii_digits ds ≡ true) tells_all_ascii_digits) n p

is_false : (b : Bool) → (b ≡ true → ⊥) → b ≡ false
is_false true h = absurd (h refl)
is_false false h = refl

-- a word that is none of so many words of definitions
not_numbered : (word : Word) (from n : ℕ) → ((k : ℕ) → k < n → word ≡ made_word (from + k) → ⊥) → is_among word (numbered from n) ≡ false
not_numbered word from zero apart = refl
not_numbered word from (suc n) apart =
    (elim (bytes_eq word (made_word from)) as (λ b. bytes_eq word (made_word from) ≡ b → (b || is_among word (numbered (suc from) n)) ≡ false) [
      | true ↦ λ t. let here : from ≡ from + 0 = omega arith in absurd (apart 0 (omega arith) (same_text word (made_word from) t ∙ ap made_word here))
      | false ↦ λ _. not_numbered word (suc from) n (λ k within e. let there : suc from + k ≡ from + suc k = omega arith in apart (suc k) (omega (arith, within)) (e ∙ ap made_word there))
    ]) refl

numbered_distinct : (from n : ℕ) → from + n < 2 ^ 64 → AreDistinct (numbered from n)
numbered_distinct from zero few = tt
numbered_distinct from (suc n) few = (
  not_numbered (made_word from) (suc from) n (λ k within e. let same : from ≡ suc from + k = made_inject from (suc from + k) (omega (arith, few)) (omega (arith, few, within)) e in omega (arith, same)),
  numbered_distinct (suc from) n (omega (arith, few)),
)

-- so many words and so many more
pub numbered_append : (from n m : ℕ) → numbered from (n + m) ≡ numbered from n ++ numbered (from + n) m
numbered_append from zero m =
    let none : 0 + m ≡ m = omega arith in
    let here : from ≡ from + 0 = omega arith in
    (λ i. numbered from (none i)) ∙ (λ i. numbered (here i) m)
numbered_append from (suc n) m =
    let more : suc n + m ≡ suc (n + m) = omega arith in
    let there : suc from + n ≡ from + suc n = omega arith in
    (λ i. numbered from (more i)) ∙ ap (λ ws. made_word from ∷ ws) (numbered_append (suc from) n m ∙ (λ i. numbered (suc from) n ++ numbered (there i) m))

-- ---- all words
neither : (a b : Bool) → a ≡ false → b ≡ false → (a || b) ≡ false
neither a b e f = λ i. e i || f i

distinct_append : (ws more : List Word) → AreDistinct ws → AreDistinct more → All (λ w. is_among w more ≡ false) ws → AreDistinct (ws ++ more)
distinct_append [] more d e apart = e
distinct_append (w ∷ ws) more d e apart = (
  list_any-append (bytes_eq w) ws more ∙ neither (is_among w ws) (is_among w more) d.0 (All-head (λ w. is_among w more ≡ false) w ws apart),
  distinct_append ws more d.1 e (All-tail (λ w. is_among w more ≡ false) w ws apart),
)

pub plain_not_numbered : (word : Word) (from n : ℕ) → from + n < 2 ^ 64 → IsPlainWord word → is_among word (numbered from n) ≡ false
plain_not_numbered word from n few plain = not_numbered word from n (λ k within e. true≢false (sym (is_made (from + k) (omega (arith, few, within))) ∙ ap is_made_word (sym e) ∙ plain))

-- a word among distinct ones is none of those before it
pub distinct_apart : (ws : List Word) (word : Word) (more : List Word) → AreDistinct (ws ++ word ∷ more) → is_among word ws ≡ false
distinct_apart [] word more d = refl
distinct_apart (w ∷ ws) word more d =
    let parts = or_parts (is_among w ws) (is_among w (word ∷ more)) (sym (list_any-append (bytes_eq w) ws (word ∷ more)) ∙ d.0) in
    let first = or_parts (bytes_eq w word) (is_among w more) parts.1 in
    neither (bytes_eq word w) (is_among word ws) (apart_back w word first.0) (distinct_apart ws word more d.1)

made_not_plain : (word : Word) (ws : List Word) → is_made_word word ≡ true → All IsPlainWord ws → is_among word ws ≡ false
made_not_plain word [] made plain = refl
made_not_plain word (w ∷ ws) made plain =
    neither (bytes_eq word w) (is_among word ws)
    (is_false (bytes_eq word w) (λ t. true≢false (sym made ∙ ap is_made_word (same_text word w t) ∙ All-head IsPlainWord w ws plain)))
    (made_not_plain word ws made (All-tail IsPlainWord w ws plain))

pub words_are_distinct : (names : NameList) → IsMade names → AreDistinct (words names)
words_are_distinct names made =
    let n = length names.definitions in
    distinct_append (constant_words names) (numbered 1 n) made.distinct (numbered_distinct 1 n (omega (arith, made.few)))
    (λ k d within. plain_not_numbered _ 1 n (omega (arith, made.few)) (made.plain k d within))

-- the word of the next definition is the word of no name
pub made_word_is_new : (names : NameList) → IsMade names → is_among (made_word (length names.definitions + 1)) (words names) ≡ false
made_word_is_new names made =
    let n = length names.definitions in
    let word = made_word (n + 1) in
    let few : n + 1 < 2 ^ 64 = omega (arith, made.few) in
    list_any-append (bytes_eq word) (constant_words names) (numbered 1 n)
    ∙ neither (is_among word (constant_words names)) (is_among word (numbered 1 n)) (made_not_plain word (constant_words names) (is_made (n + 1) few) made.plain)
    (not_numbered word 1 n (λ k within e. let same : n + 1 ≡ 1 + k = made_inject (n + 1) (1 + k) few (omega (arith, few, within)) e in omega (arith, same, within)))

pub words_with_definition : (names : NameList) (body : Body) → words (with_definition names body) ≡ words names ++ made_word (length names.definitions + 1) ∷ []
words_with_definition names body =
    let n = length names.definitions in
    let ws = constant_words names in
    let more : length (with_definition names body).definitions ≡ n + 1 = length-append names.definitions (record { name = next names; body = body } ∷ []) in
    let at : 1 + n ≡ n + 1 = omega arith in
    (λ i. ws ++ numbered 1 (more i)) ∙ ap (λ zs. ws ++ zs) (numbered_append 1 n 1) ∙ (λ i. ws ++ (numbered 1 n ++ made_word (at i) ∷ [])) ∙ sym (append_assoc ws (numbered 1 n) (made_word (n + 1) ∷ []))

length_numbered : (from n : ℕ) → length (numbered from n) ≡ n
length_numbered from zero = refl
length_numbered from (suc n) = ap suc (length_numbered (suc from) n)

-- as many words as names
pub length_words : (names : NameList) → length (words names) ≡ count names
length_words names = length-append (constant_words names) (numbered 1 (length names.definitions)) ∙ (λ i. length-map names.constants constant_name i + length_numbered 1 (length names.definitions) i)

-- without definitions the words are those of the constants
pub constants_alone : (names : NameList) → names.definitions ≡ [] → words names ≡ constant_words names
constants_alone names none = ap (λ (ds : List Def). constant_words names ++ numbered 1 (length ds)) none ∙ append-nil (constant_words names)

-- ---- numbers of words
-- among distinct words the first place of a word is its only one
first_place : (ws : List Word) (k : ℕ) (word : Word) → AreDistinct ws → slice_get ws k ≡ Some word → prefix_len (λ w. not (bytes_eq word w)) ws ≡ k
first_place [] k word d h = absurd (cc)
first_place (w ∷ ws) zero word d h =
    let same : w ≡ word = cc in
    let test : bytes_eq word w ≡ true = ap (bytes_eq word) same ∙ text_same word in
    λ i. cond (not (test i)) (1 + prefix_len (λ w. not (bytes_eq word w)) ws) 0
first_place (w ∷ ws) (suc k) word d h =
    let test : bytes_eq word w ≡ false = apart_back w word (absent w ws k word d.0 h) in
    let step : 1 + k ≡ suc k = omega arith in
    (λ i. cond (not (test i)) (1 + first_place ws k word d.1 h i) 0) ∙ step

pub position_of : (ws : List Word) (k : ℕ) (word : Word) → AreDistinct ws → slice_get ws k ≡ Some word → position (bytes_eq word) ws ≡ Some k
position_of ws k word d h =
    let within : nat_lt k (length ws) ≡ true = (Decides-ltb k (length ws)).1 (slice_get_within ws k word h) in
    (λ i. let n = first_place ws k word d h i in cond (nat_lt n (length ws)) (Some n) None) ∙ (λ i. cond (within i) (Some k) None)

pub number_of : (ws : List Word) (k : ℕ) (word : Word) → AreDistinct ws → slice_get ws k ≡ Some word → number ws word ≡ Some (record { 0 = k })
number_of ws k word d h = ap (option_map (λ (at : ℕ). let name : Name = record { 0 = at } in name)) (position_of ws k word d h)

pub words_stand_for_names : (names : NameList) (k : ℕ) (word : Word) → IsMade names → slice_get (words names) k ≡ Some word → number (words names) word ≡ Some (record { 0 = k })
words_stand_for_names names k word made h = number_of (words names) k word (words_are_distinct names made) h
