-- The words of names: of constants, and of definitions.
use Rattle.std.proofs.Common.{◌≡◌, ◌∙◌, ℕ, zero, suc, ◌+◌, ◌-◌, ◌<◌, ◌≤◌, List, [], ◌∷◌, ◌++◌, length, map, Some, slice_get, sym, ap, arith}
use Rattle.std.specs.Prelude.{slice_index_or}
use Rattle.std.proofs.lemmas.List.{length-map}
use Rattle.hp_tree.specs.Value.{Word}
use Rattle.hp_terms.specs.Words.{made_word, numbered}
use Rattle.hp_lit.specs.declared.literal.Name.{Name}
use Rattle.hp_defs.specs.Names.{NameList, constant_name, constant_words, count}
use Rattle.hp_instance.specs.Replacing.{name_word}

-- ---- what stands at a place
of_front : (xs ys : List Word) (k : ℕ) (x d : Word) → slice_get xs k ≡ Some x → slice_index_or (xs ++ ys) k d ≡ x
of_front [] ys k x d e = absurd (cc)
of_front (z ∷ xs) ys zero x d e = cc
of_front (z ∷ xs) ys (suc k) x d e = of_front xs ys k x d e

of_back : (xs ys : List Word) (k : ℕ) (d : Word) → length xs ≤ k → slice_index_or (xs ++ ys) k d ≡ slice_index_or ys (k - length xs) d
of_back [] ys k d h = ap (λ m. slice_index_or ys m d) (let e : k ≡ k - 0 = omega arith in e)
of_back (z ∷ xs) ys zero d h = absurd (omega arith)
of_back (z ∷ xs) ys (suc k) d h = of_back xs ys k d (omega arith) ∙ ap (λ m. slice_index_or ys m d) (let e : k - length xs ≡ suc k - suc (length xs) = omega arith in e)

of_numbered : (from n k : ℕ) (d : Word) → k < n → slice_index_or (numbered from n) k d ≡ made_word (from + k)
of_numbered from zero k d h = absurd (omega arith)
of_numbered from (suc n) zero d h = ap made_word (let e : from ≡ from + 0 = omega arith in e)
of_numbered from (suc n) (suc k) d h = of_numbered (suc from) n k d (omega arith) ∙ ap made_word (let e : suc from + k ≡ from + suc k = omega arith in e)

-- ---- words
module _ (names : NameList) where
  pub constant_has_word : (name : Name) (word : Word) → slice_get (map constant_name names.constants) name.0 ≡ Some word → word ≡ name_word names name
  constant_has_word name word e = sym (of_front (constant_words names) (numbered 1 (length names.definitions)) name.0 word [] e)

  pub definition_has_word : (name : Name) (n : ℕ) → length names.constants ≤ name.0 → name.0 < count names → n ≡ (name.0 - length names.constants) + 1 → made_word n ≡ name_word names name
  definition_has_word name n low high is =
      let front = constant_words names in
      let long = length-map names.constants constant_name in
      let after : length front ≤ name.0 = omega (arith, long, low) in
      let place : name.0 - length front < length names.definitions = omega (arith, long, low, high) in
      let same : n ≡ 1 + (name.0 - length front) = omega (arith, long, is) in
      ap made_word same ∙ sym (of_numbered 1 (length names.definitions) (name.0 - length front) [] place) ∙ sym (of_back front (numbered 1 (length names.definitions)) name.0 [] after)
