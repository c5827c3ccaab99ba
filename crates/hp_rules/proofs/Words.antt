-- The words of names, and those of arguments behind them: they are distinct, and so each is added.
use Rattle.std.proofs.Common.{◌≡◌, ◌∙◌, ℕ, zero, suc, ◌<◌, ◌^◌, Bool, false, ◌||◌, List, [], ◌∷◌, ◌++◌, map, length, refl, sym, ap, subst, arith, append_assoc, append-nil, length-append}
use Rattle.std.specs.Prelude.{if◌then◌else◌}
use Rattle.std.specs.List.{All}
use Rattle.std.specs.Str.{bytes_eq}
use Rattle.std.proofs.lemmas.List.Elements.{All-nil, All-cons, All-head, All-tail, All-append, All-map}
use Rattle.std.proofs.lemmas.List.Folds.{list_any-append}
use Rattle.hp_tree.specs.Value.{Word}
use Rattle.hp_terms.specs.Words.{made_word, numbered}
use Rattle.hp_names.specs.Names.{AreDistinct, is_among}
use Rattle.hp_defs.specs.declared.names.Constant.{Constant}
use Rattle.hp_defs.specs.Made.{IsMade}
use Rattle.hp_defs.specs.Names.{NameList, constant_name, constant_words, words}
use Rattle.hp_defs.proofs.Distinct.{distinct_apart, length_words, words_are_distinct}
use Rattle.hp_local.specs.Rows.{argument_words}
use Rattle.hp_norm.specs.Testing.{with_word, with_words}
use Rattle.hp_flatten.specs.Laws.{HasPlainConstants}
use Rattle.hp_rules.specs.Rules.{rule_words}

-- ---- distinct words
neither : (a b : Bool) → a ≡ false → b ≡ false → (a || b) ≡ false
neither a b e f = λ i. e i || f i

distinct_append : (ws more : List Word) → AreDistinct ws → AreDistinct more → All (λ w. is_among w more ≡ false) ws → AreDistinct (ws ++ more)
distinct_append [] more d e apart = e
distinct_append (w ∷ ws) more d e apart = (
  list_any-append (bytes_eq w) ws more ∙ neither (is_among w ws) (is_among w more) d.0 (All-head (λ w. is_among w more ≡ false) w ws apart),
  distinct_append ws more d.1 e (All-tail (λ w. is_among w more ≡ false) w ws apart),
)

-- the word of no argument
abbrev IsOther : Word → Type 0
IsOther word = is_among word argument_words ≡ false

numbered_other : (from n : ℕ) → All IsOther (numbered from n)
numbered_other from zero = All-nil IsOther
numbered_other from (suc n) = All-cons IsOther (made_word from) (numbered (suc from) n) refl (numbered_other (suc from) n)

words_other : (names : NameList) → HasPlainConstants names → All IsOther (words names)
words_other names plain =
    let n = length names.definitions in
    All-append IsOther (constant_words names) (numbered 1 n) (All-map IsOther constant_name names.constants plain) (numbered_other 1 n)

rule_words_distinct : (names : NameList) → IsMade names → HasPlainConstants names → AreDistinct (rule_words names)
rule_words_distinct names made plain = distinct_append (words names) argument_words (words_are_distinct names made) (refl, (refl, (refl, (refl, tt)))) (words_other names plain)

-- ---- words that are added
-- some words and then others
added_append : (old some more : List Word) → with_words old (some ++ more) ≡ with_words (with_words old some) more
added_append old [] more = refl
added_append old (word ∷ some) more = added_append (with_word old word) some more

-- where all are distinct, each is added
all_added : (old more : List Word) → AreDistinct (old ++ more) → with_words old more ≡ old ++ more
all_added old [] d = sym (append-nil old)
all_added old (word ∷ more) d =
    let new : with_word old word ≡ old ++ word ∷ [] = ap (λ b. if b then old else old ++ word ∷ []) (distinct_apart old word more d) in
    let same : (old ++ word ∷ []) ++ more ≡ old ++ word ∷ more = append_assoc old (word ∷ []) more in
    ap (λ ws. with_words ws more) new ∙ all_added (old ++ word ∷ []) more (subst AreDistinct (sym same) d) ∙ same

-- constants, definitions and arguments, one after the other
pub rule_words_added : (names : NameList) (none first next all : List Word) (constants : List Constant) (count : ℕ) → IsMade names → HasPlainConstants names
    → none ≡ [] → constants ≡ names.constants → count ≡ length names.definitions
    → first ≡ with_words none (map constant_name constants) → next ≡ with_words first (numbered 1 count) → all ≡ with_words next argument_words → all ≡ rule_words names
rule_words_added names none first next all constants count made plain e are much f g h =
    let n = length names.definitions in
    let begun : first ≡ with_words [] (constant_words names) = f ∙ (λ i. with_words (e i) (map constant_name (are i))) in
    let named : next ≡ with_words [] (words names) = g ∙ (λ i. with_words (begun i) (numbered 1 (much i))) ∙ sym (added_append [] (constant_words names) (numbered 1 n)) in
    h
    ∙ ap (λ ws. with_words ws argument_words) named
    ∙ sym (added_append [] (words names) argument_words)
    ∙ all_added [] (rule_words names) (rule_words_distinct names made plain)

-- ---- how many
pub few_rule_words : (names : NameList) → IsMade names → length (rule_words names) < 2 ^ 28
few_rule_words names made = omega (arith, length-append (words names) argument_words, length_words names, made.few)
