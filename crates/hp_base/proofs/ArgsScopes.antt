-- Words of ground sets: those of definitions stand for their names, and words keep their sorts while more is added.
use Rattle.std.proofs.Common.{◌≡◌, ◌∙◌, ℕ, zero, suc, ◌+◌, ◌-◌, ◌<◌, List, length, Option, Some, None, slice_get, refl, sym, ap, arith}
use Rattle.std.specs.Prelude.{option_and_then, option_map, position}
use Rattle.std.specs.Str.{bytes_eq}
use Rattle.std.proofs.lemmas.List.{length-map}
use Rattle.std.proofs.lemmas.Option.{slice_get_within}
use Rattle.hp_tree.specs.declared.problem.Sort.{Sort}
use Rattle.hp_tree.specs.Value.{Word}
use Rattle.hp_terms.specs.Words.{made_word, numbered}
use Rattle.hp_lit.specs.declared.literal.Name.{Name}
use Rattle.hp_lit.proofs.Words.{numbered as numbered_stands}
use Rattle.hp_defs.specs.Names.{constant_name, constant_words, sorts, words}
use Rattle.hp_defs.proofs.Distinct.{position_of, words_are_distinct}
use Rattle.hp_defs.proofs.Growing.{begins_get, names_begin}
use Rattle.hp_base.specs.Laws.{DefinedNamesHaveWords, DefinedWordsHaveSorts, ScopesWiden, definition_word}
use Rattle.hp_base.proofs.Making.{begins_names}
use Rattle.hp_base.proofs.ArgsDefined.{get_behind}

-- ---- words of definitions
numbered_get : (from n k : ℕ) → k < n → slice_get (numbered from n) k ≡ Some (made_word (from + k))
numbered_get from zero k h = absurd (omega arith)
numbered_get from (suc n) zero h = ap (λ j. Some (made_word j)) (let e : from ≡ from + 0 = omega arith in e)
numbered_get from (suc n) (suc k) h = numbered_get (suc from) n k (omega arith) ∙ ap (λ j. Some (made_word j)) (let e : suc from + k ≡ from + suc k = omega arith in e)

pub defined_names_have_words : DefinedNamesHaveWords
defined_names_have_words names name body d =
    let front = constant_words names in
    let n = length names.definitions in
    let is : name.0 ≡ length names.constants + d.place = ap (λ (m : Name). m.0) d.has_name in
    let at : name.0 ≡ length front + d.place = is ∙ ap (λ (m : ℕ). m + d.place) (sym (length-map names.constants constant_name)) in
    let number : 1 + d.place ≡ suc (name.0 - length names.constants) = omega arith in
    ap (slice_get (words names)) at ∙ get_behind front (numbered 1 n) d.place ∙ numbered_get 1 n d.place (slice_get_within names.definitions d.place d.definition d.there)
    ∙ ap (λ j. Some (made_word j)) number

-- ---- sorts of words
pub defined_words_have_sorts : DefinedWordsHaveSorts
defined_words_have_sorts names name body made d =
    ap (option_and_then (λ at. slice_get (sorts names) at))
    (position_of (words names) name.0 (definition_word names name) (words_are_distinct names made) (defined_names_have_words names name body d))

there : (ws : List Word) (word : Word) (k : ℕ) → position (bytes_eq word) ws ≡ Some k → slice_get ws k ≡ Some word
there ws word k e = (numbered_stands ws word (record { 0 = k }) (ap (option_map (λ at. record { 0 = at })) e)).there

-- a word whose sort is known stands at a place
sort_stays : (old new : List Word) (ss ts : List Sort) (word : Word) (sort : Sort) (p : Option ℕ) → position (bytes_eq word) old ≡ p
    → ((k : ℕ) → position (bytes_eq word) old ≡ Some k → position (bytes_eq word) new ≡ Some k) → ((k : ℕ) → slice_get ss k ≡ Some sort → slice_get ts k ≡ Some sort)
    → option_and_then (λ at. slice_get ss at) p ≡ Some sort → option_and_then (λ at. slice_get ts at) (position (bytes_eq word) new) ≡ Some sort
sort_stays old new ss ts word sort None e places sorted h = absurd (cc)
sort_stays old new ss ts word sort (Some k) e places sorted h = ap (option_and_then (λ at. slice_get ts at)) (places k e) ∙ sorted k h

pub scopes_widen : ScopesWiden
scopes_widen before after b made =
    let old = words before.names in
    let new = words after.names in
    let stay = names_begin before.names after.names (begins_names before after b) in
    record {
      names = λ word sort h.
          sort_stays old new (sorts before.names) (sorts after.names) word sort (position (bytes_eq word) old) refl
          (λ k e. position_of new k word (words_are_distinct after.names made) (begins_get old new k word stay.words (there old word k e)))
          (λ k e. begins_get (sorts before.names) (sorts after.names) k sort stay.sorts e) h;
      functions = λ word profile h. absurd (cc);
      pointers = λ number h. absurd (cc);
    }
