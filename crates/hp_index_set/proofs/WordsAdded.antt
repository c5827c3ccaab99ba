-- The words of definitions, one after the other.
use Rattle.std.proofs.Common.{◌≡◌, ◌∙◌, ℕ, suc, ◌+◌, ◌-◌, ◌<◌, true, false, Bool, List, [], ◌∷◌, ◌++◌, sym, ap, arith}
use Rattle.std.specs.Prelude.{if◌then◌else◌}
use Rattle.hp_names.specs.Names.{Added}
use Rattle.hp_tree.specs.Value.{Word}
use Rattle.hp_terms.specs.Words.{made_word, numbered}
use Rattle.hp_norm.specs.Testing.{with_word, with_words}

word_added : (old new : List Word) (word : Word) (added : Bool) → Added old word new added → new ≡ with_word old word
word_added old new word true h = h.1 ∙ sym (ap (λ b. if b then old else old ++ word ∷ []) h.0)
word_added old new word false h = h.1 ∙ sym (ap (λ b. if b then old else old ++ word ∷ []) h.0)

pub numbered_next : (count at : ℕ) (old words new : List Word) (word : Word) (added : Bool) → at < count → word ≡ made_word (at + 1) → Added words word new added
    → with_words old (numbered 1 count) ≡ with_words words (numbered (at + 1) (count - at)) → with_words old (numbered 1 count) ≡ with_words new (numbered (at + 1 + 1) (count - (at + 1)))
numbered_next count at old words new word added h is a so_far =
    let less : count - at ≡ suc (count - (at + 1)) = grind (arith, h) in
    let next : suc (at + 1) ≡ at + 1 + 1 = omega arith in
    let same : with_word words (made_word (at + 1)) ≡ new = sym (word_added words new word added a ∙ ap (with_word words) is) in
    so_far
    ∙ (λ i. with_words words (numbered (at + 1) (less i)))
    ∙ (λ i. with_words (same i) (numbered (next i) (count - (at + 1))))
