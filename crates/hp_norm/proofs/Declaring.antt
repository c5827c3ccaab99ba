-- Declared names, one declaration after the other.
use Rattle.std.proofs.Common.{◌≡◌, ℕ, zero, suc, ◌+◌, ◌<◌, ◌≤◌, ◌^◌, List, [], ◌∷◌, ◌++◌, ◌||◌, false, map, length, take, drop, get_or, refl, sym, ap, subst, ◌∙◌, append-nil, take-append-drop, arith}
use Rattle.std.specs.Str.{bytes_eq}
use Rattle.std.specs.List.{All}
use Rattle.std.proofs.lemmas.Bool.{or_parts}
use Rattle.std.proofs.lemmas.List.{drop_more, map-append, take_more}
use Rattle.std.proofs.lemmas.List.Elements.{All-get_or}
use Rattle.hp_names.specs.Names.{AreDistinct, is_among}
use Rattle.hp_tree.specs.Limits.{most_names}
use Rattle.hp_tree.specs.declared.problem.Decl.{Decl}
use Rattle.hp_tree.specs.declared.problem.Decl.TheVariants.{Const, Fun}
use Rattle.hp_tree.specs.Value.{Word}
use Rattle.hp_terms.specs.Words.{IsPlainWord, declared_word}
use Rattle.hp_defs.specs.declared.names.Signature.{Signature}
use Rattle.hp_defs.specs.Names.{NameList, constant_name, constant_words, function_words, signature_name}
use Rattle.hp_defs.proofs.Distinct.{distinct_apart}
use Rattle.hp_norm.specs.Answers.{with_declared}
use Rattle.hp_norm.specs.Lines.{constants_of, declared_names, signatures_from}

-- ---- one declaration more
constants_more : (ds : List Decl) (d : Decl) → constants_of (ds ++ d ∷ []) ≡ constants_of ds ++ constants_of (d ∷ [])
constants_more [] d = refl
constants_more (Const name sort ∷ ds) d = ap (λ cs. record { name = name; sort = sort } ∷ cs) (constants_more ds d)
constants_more (Fun name args result level ∷ ds) d = constants_more ds d

signatures_more : (item : ℕ) (ds : List Decl) (d : Decl) (last : ℕ) → item + length ds ≡ last → signatures_from item (ds ++ d ∷ []) ≡ signatures_from item ds ++ signatures_from last (d ∷ [])
signatures_more item [] d last e = let same : item ≡ last = omega (arith, e) in ap (λ n. signatures_from n (d ∷ [])) same
signatures_more item (Const name sort ∷ ds) d last e = signatures_more (item + 1) ds d last (omega (arith, e))
signatures_more item (Fun name args result level ∷ ds) d last e =
    ap (λ (ss : List Signature). record { name = name; args = args; result = result; level = level; item = item } ∷ ss) (signatures_more (item + 1) ds d last (omega (arith, e)))

names_more : (ds : List Decl) (d : Decl) (item : ℕ) → 1 + length ds ≡ item → declared_names (ds ++ d ∷ []) ≡ with_declared item d (declared_names ds)
names_more ds (Const name sort) item e =
    (λ i. record {
      constants = constants_more ds (Const name sort) i;
      signatures = (signatures_more 1 ds (Const name sort) item e ∙ append-nil (signatures_from 1 ds)) i;
      definitions = [];
    })
names_more ds (Fun name args result level) item e =
    (λ i. record {
      constants = (constants_more ds (Fun name args result level) ∙ append-nil (constants_of ds)) i;
      signatures = signatures_more 1 ds (Fun name args result level) item e i;
      definitions = [];
    })

-- ---- words that are not declared
absent_constant : (word : Word) (ds : List Decl) → is_among word (map declared_word ds) ≡ false → is_among word (map constant_name (constants_of ds)) ≡ false
absent_constant word [] e = refl
absent_constant word (Const name sort ∷ ds) e =
    let parts = or_parts (bytes_eq word name) (is_among word (map declared_word ds)) e in
    (λ i. parts.0 i || absent_constant word ds parts.1 i)
absent_constant word (Fun name args result level ∷ ds) e = absent_constant word ds (or_parts (bytes_eq word name) (is_among word (map declared_word ds)) e).1

absent_function : (word : Word) (item : ℕ) (ds : List Decl) → is_among word (map declared_word ds) ≡ false → is_among word (map signature_name (signatures_from item ds)) ≡ false
absent_function word item [] e = refl
absent_function word item (Const name sort ∷ ds) e = absent_function word (item + 1) ds (or_parts (bytes_eq word name) (is_among word (map declared_word ds)) e).1
absent_function word item (Fun name args result level ∷ ds) e =
    let parts = or_parts (bytes_eq word name) (is_among word (map declared_word ds)) e in
    (λ i. parts.0 i || absent_function word (item + 1) ds parts.1 i)

-- ---- counts
constants_in_front : (ds : List Decl) (i : ℕ) (d : Decl) → i < length ds → (length (constants_of (take i ds)) + length (constants_of (get_or ds i d ∷ []))) ≤ length (constants_of ds)
constants_in_front [] i d h = absurd (omega arith)
constants_in_front (Const name sort ∷ ds) zero d h = omega arith
constants_in_front (Fun name args result level ∷ ds) zero d h = omega arith
constants_in_front (Const name sort ∷ ds) (suc i) d h = omega (arith, constants_in_front ds i d (omega arith))
constants_in_front (Fun name args result level ∷ ds) (suc i) d h = constants_in_front ds i d (omega arith)

functions_in_front : (item : ℕ) (ds : List Decl) (i : ℕ) → length (signatures_from item (take i ds)) ≤ i
functions_in_front item [] zero = omega arith
functions_in_front item [] (suc i) = omega arith
functions_in_front item (d ∷ ds) zero = omega arith
functions_in_front item (Const name sort ∷ ds) (suc i) = omega (arith, functions_in_front (item + 1) ds i)
functions_in_front item (Fun name args result level ∷ ds) (suc i) = omega (arith, functions_in_front (item + 1) ds i)

take_long : {X : Type 0} (xs : List X) (i : ℕ) → i < length xs → length (take i xs) ≡ i
take_long [] i h = absurd (omega arith)
take_long (x ∷ xs) zero h = refl
take_long (x ∷ xs) (suc i) h = ap suc (take_long xs i (omega arith))

-- ---- the next declaration
module _ (ds : List Decl) (i : ℕ) (d : Decl) (h : i < length ds) (is : d ≡ get_or ds i d) (names : NameList) (so_far : names ≡ declared_names (take i ds)) where
  pub few_constants : length (constants_of ds) ≤ most_names → (length names.constants + length (constants_of (d ∷ []))) ≤ most_names
  few_constants few =
      subst (λ (n : NameList). (length n.constants + length (constants_of (d ∷ []))) ≤ most_names) (sym so_far)
      (subst (λ (x : Decl). (length (constants_of (take i ds)) + length (constants_of (x ∷ []))) ≤ most_names) (sym is)
      (omega (arith, few, constants_in_front ds i d h)))

  pub few_functions : length ds < 2 ^ 28 → length names.signatures + 1 < 2 ^ 32
  few_functions few = subst (λ (n : NameList). length n.signatures + 1 < 2 ^ 32) (sym so_far) (omega (arith, few, h, functions_in_front 1 ds i))

  pub no_definitions : names.definitions ≡ []
  no_definitions = ap (λ (n : NameList). n.definitions) so_far

  word_is_new : AreDistinct (map declared_word ds) → is_among (declared_word d) (map declared_word (take i ds)) ≡ false
  word_is_new distinct =
      let split = sym (take-append-drop i ds) ∙ ap (λ (xs : List Decl). take i ds ++ xs) (drop_more ds i d h) in
      let words = ap (map declared_word) split ∙ map-append declared_word (take i ds) (get_or ds i d ∷ drop (i + 1) ds) in
      subst (λ (x : Decl). is_among (declared_word x) (map declared_word (take i ds)) ≡ false) (sym is)
      (distinct_apart (map declared_word (take i ds)) (declared_word (get_or ds i d)) (map declared_word (drop (i + 1) ds)) (subst AreDistinct words distinct))

  pub new_constant : AreDistinct (map declared_word ds) → is_among (declared_word d) (constant_words names) ≡ false
  new_constant distinct =
      subst (λ (n : NameList). is_among (declared_word d) (constant_words n) ≡ false) (sym so_far) (absent_constant (declared_word d) (take i ds) (word_is_new distinct))

  pub new_function : AreDistinct (map declared_word ds) → is_among (declared_word d) (function_words names) ≡ false
  new_function distinct =
      subst (λ (n : NameList). is_among (declared_word d) (function_words n) ≡ false) (sym so_far) (absent_function (declared_word d) 1 (take i ds) (word_is_new distinct))

  pub plain_word : All (λ x. IsPlainWord (declared_word x)) ds → IsPlainWord (declared_word d)
  plain_word plain = subst (λ (x : Decl). IsPlainWord (declared_word x)) (sym is) (All-get_or (λ x. IsPlainWord (declared_word x)) ds i d h plain)

  pub one_more : (new : NameList) → new ≡ with_declared (i + 1) d names → new ≡ declared_names (take (i + 1) ds)
  one_more new e =
      e ∙ ap (with_declared (i + 1) d) so_far
      ∙ sym (names_more (take i ds) d (i + 1) (omega (arith, take_long ds i h)))
      ∙ ap (λ (x : Decl). declared_names (take i ds ++ x ∷ [])) is
      ∙ sym (ap declared_names (take_more ds i d h))
