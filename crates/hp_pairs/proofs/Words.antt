-- The words of names, and behind them those of arguments.
use Rattle.std.proofs.Common.{◌≡◌, ◌∙◌, ℕ, zero, suc, ◌+◌, ◌-◌, ◌<◌, ◌≤◌, List, [], ◌∷◌, ◌++◌, length, map, Some, slice_get, refl, sym, ap, arith}
use Rattle.std.specs.Prelude.{slice_index_or}
use Rattle.std.proofs.lemmas.List.{length-append, length-map}
use Rattle.hp_tree.specs.Value.{Word}
use Rattle.hp_terms.specs.Words.{made_word, numbered}
use Rattle.hp_local.specs.Rows.{argument_words}
use Rattle.hp_defs.specs.Names.{NameList, constant_name, constant_words, count, words}
use Rattle.hp_flatten.specs.Flattening.{argument_word}

-- ---- what stands at a place
of_front : (xs ys : List Word) (k : ℕ) (d : Word) → k < length xs → slice_index_or (xs ++ ys) k d ≡ slice_index_or xs k d
of_front [] ys k d h = absurd (omega arith)
of_front (z ∷ xs) ys zero d h = refl
of_front (z ∷ xs) ys (suc k) d h = of_front xs ys k d (omega arith)

of_back : (xs ys : List Word) (k : ℕ) (d : Word) → length xs ≤ k → slice_index_or (xs ++ ys) k d ≡ slice_index_or ys (k - length xs) d
of_back [] ys k d h = ap (λ m. slice_index_or ys m d) (let e : k ≡ k - 0 = omega arith in e)
of_back (z ∷ xs) ys zero d h = absurd (omega arith)
of_back (z ∷ xs) ys (suc k) d h = of_back xs ys k d (omega arith) ∙ ap (λ m. slice_index_or ys m d) (let e : k - length xs ≡ suc k - suc (length xs) = omega arith in e)

got : (xs : List Word) (k : ℕ) (x d : Word) → slice_get xs k ≡ Some x → (k < length xs) × (slice_index_or xs k d ≡ x)
got [] k x d e = absurd (cc)
got (z ∷ xs) zero x d e = (omega arith, cc)
got (z ∷ xs) (suc k) x d e = let h = got xs k x d e in (omega (arith, h.0), h.1)

of_numbered : (from n k : ℕ) (d : Word) → k < n → slice_index_or (numbered from n) k d ≡ made_word (from + k)
of_numbered from zero k d h = absurd (omega arith)
of_numbered from (suc n) zero d h = ap made_word (let e : from ≡ from + 0 = omega arith in e)
of_numbered from (suc n) (suc k) d h = of_numbered (suc from) n k d (omega arith) ∙ ap made_word (let e : suc from + k ≡ from + suc k = omega arith in e)

length_numbered : (from n : ℕ) → length (numbered from n) ≡ n
length_numbered from zero = refl
length_numbered from (suc n) = ap suc (length_numbered (suc from) n)

-- ---- words
module _ (names : NameList) where
  -- one for each name
  words_length : length (words names) ≡ count names
  words_length =
      let m = length-map names.constants constant_name in
      let n = length_numbered 1 (length names.definitions) in
      let both = length-append (constant_words names) (numbered 1 (length names.definitions)) in
      omega (arith, m, n, both)

  below : (k : ℕ) → k < count names → slice_index_or (words names ++ argument_words) k [] ≡ slice_index_or (words names) k []
  below k h = let long = words_length in of_front (words names) argument_words k [] (omega (arith, h, long))

  pub constant_has_word : (k : ℕ) (word : Word) → slice_get (map constant_name names.constants) k ≡ Some word → word ≡ slice_index_or (words names ++ argument_words) k []
  constant_has_word k word e =
      let h = got (constant_words names) k word [] e in
      let long = length-map names.constants constant_name in
      sym (below k (omega (arith, h.0, long)) ∙ of_front (constant_words names) (numbered 1 (length names.definitions)) k [] h.0 ∙ h.1)

  pub definition_has_word : (k n : ℕ) → length names.constants ≤ k → k < count names → n ≡ (k - length names.constants) + 1
      → made_word n ≡ slice_index_or (words names ++ argument_words) k []
  definition_has_word k n low high is =
      let front = constant_words names in
      let long = length-map names.constants constant_name in
      let after : length front ≤ k = omega (arith, long, low) in
      let place : k - length front < length names.definitions = omega (arith, long, low, high) in
      let same : n ≡ 1 + (k - length front) = omega (arith, long, is) in
      ap made_word same ∙ sym (of_numbered 1 (length names.definitions) (k - length front) [] place)
      ∙ sym (of_back front (numbered 1 (length names.definitions)) k [] after) ∙ sym (below k high)

  -- that of an argument stands behind all others
  pub argument_has_word : (place : ℕ) → argument_word place ≡ slice_index_or (words names ++ argument_words) (count names + place) []
  argument_has_word place =
      let long = words_length in
      ap (λ m. slice_index_or argument_words m []) (let e : place ≡ (count names + place) - length (words names) = omega (arith, long) in e)
      ∙ sym (of_back (words names) argument_words (count names + place) [] (omega (arith, long)))
