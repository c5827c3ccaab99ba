-- What holds of every list of names is kept where a name or a function is added, and so is what finds them again.
use Rattle.std.proofs.Common.{◌≡◌, ℕ, suc, ◌+◌, ◌<◌, ◌^◌, ◌++◌, false, List, [], ◌∷◌, length, map, Option, Some, None, slice_get, refl, sym, ap, subst, ◌∙◌, arith, inl, inr, length-append, add-one}
use Rattle.std.specs.List.{All}
use Rattle.std.proofs.lemmas.List.{map-append}
use Rattle.std.proofs.lemmas.List.Elements.{All-push}
use Rattle.hp_tree.specs.Limits.{most_names}
use Rattle.hp_tree.specs.Value.{Word}
use Rattle.hp_terms.specs.Words.{IsPlainWord, made_word}
use Rattle.hp_names.specs.Names.{AreDistinct, is_among}
use Rattle.hp_names.proofs.Distinct.{distinct_more}
use Rattle.hp_lit.specs.declared.line.Body.{Body}
use Rattle.hp_lit.specs.declared.line.Def.{Def}
use Rattle.hp_defs.specs.declared.cell.Cell.{Cell}
use Rattle.hp_defs.specs.declared.names.Constant.{Constant}
use Rattle.hp_defs.specs.declared.names.Signature.{Signature}
use Rattle.hp_defs.specs.Cells.{body_cells, definition_cells}
use Rattle.hp_defs.specs.First.{IsFirst, IsOnce}
use Rattle.hp_defs.specs.Indexed.{IsIndexed}
use Rattle.hp_defs.specs.Made.{IsMade, IsSmallBody}
use Rattle.hp_defs.specs.Names.{NameList, bodies, constant_name, constant_words, count, definition_body, definition_name, function_words, next, signature_name, with_constant, with_definition, with_signature}
use Rattle.hp_defs.specs.Places.{AreByFunction, applied, with_place}
use Rattle.hp_defs.specs.Same.{place}
use Rattle.hp_defs.proofs.First.{same_first}
use Rattle.hp_defs.proofs.Grouped.{by_function_more, none_more}
use Rattle.hp_defs.proofs.Distinct.{constants_alone, made_word_is_new, words_with_definition}
use Rattle.hp_defs.proofs.Lists.{once_push, pushed}
use Rattle.hp_defs.proofs.Same.{place_is_exact, place_is_first}

-- ---- declarations
-- without definitions each has its name
none_named : (names : NameList) (definitions : List Def) → definitions ≡ [] → (k : ℕ) (d : Def) → slice_get definitions k ≡ Some d → d.name ≡ definition_name names k
none_named names [] e k d h = absurd (cc)
none_named names (x ∷ xs) e k d h = absurd (cc)

constant_made : (names : NameList) (c : Constant) → IsMade names → length names.constants < most_names → names.definitions ≡ []
    → is_among c.name (constant_words names) ≡ false → IsPlainWord c.name → IsMade (with_constant names c)
constant_made names c made room before fresh plain =
    let each = map-append constant_name names.constants (c ∷ []) in
    let none : length names.definitions ≡ 0 = ap (λ (ds : List Def). length ds) before in
    record {
      few = omega (arith, room, none, length-append names.constants (c ∷ []));
      distinct = subst (λ (ws : List Word). AreDistinct ws) (sym each) (distinct_more (constant_words names) c.name made.distinct fresh);
      plain = subst (λ (ws : List Word). All IsPlainWord ws) (sym each) (All-push IsPlainWord (constant_words names) c.name made.plain plain);
      functions = made.functions;
      few_functions = made.few_functions;
      named = none_named (with_constant names c) names.definitions before;
      once = made.once;
      small = made.small;
    }

signature_made : (names : NameList) (s : Signature) → IsMade names → length names.signatures + 1 < 2 ^ 32
    → is_among s.name (function_words names) ≡ false → IsMade (with_signature names s)
signature_made names s made room fresh =
    let each = map-append signature_name names.signatures (s ∷ []) in
    record {
      few = made.few;
      distinct = made.distinct;
      plain = made.plain;
      functions = subst (λ (ws : List Word). AreDistinct ws) (sym each) (distinct_more (function_words names) s.name made.functions fresh);
      few_functions = omega (arith, room, length-append names.signatures (s ∷ []));
      named = made.named;
      once = made.once;
      small = made.small;
    }

module _ (names : NameList) (word_index function_index : List Word) (definition_index : List (List Cell)) (groups : List (List ℕ)) (is : IsIndexed names word_index function_index definition_index groups) where
  -- the word of no constant is no word
  pub fresh_word : (word : Word) → names.definitions ≡ [] → is_among word (constant_words names) ≡ false → is_among word word_index ≡ false
  fresh_word word before fresh = ap (is_among word) (is.by_word ∙ constants_alone names before) ∙ fresh

  pub constant_more : (c : Constant) (constants : List Constant) (new : List Word) → length names.constants < most_names → names.definitions ≡ []
      → is_among c.name (constant_words names) ≡ false → IsPlainWord c.name → constants ≡ names.constants ++ c ∷ [] → new ≡ word_index ++ c.name ∷ []
      → IsIndexed (record names { constants = constants }) new function_index definition_index groups
  constant_more c constants new room before fresh plain e f =
      subst (λ (cs : List Constant). IsIndexed (record names { constants = cs }) new function_index definition_index groups) (sym e) (record {
        made = constant_made names c is.made room before fresh plain;
        by_word = f ∙ ap (λ (ws : List Word). ws ++ c.name ∷ []) (is.by_word ∙ constants_alone names before)
            ∙ sym (map-append constant_name names.constants (c ∷ [])) ∙ sym (constants_alone (with_constant names c) before);
        by_function = is.by_function;
        by_body = is.by_body;
        by_place = is.by_place;
      })

  -- a function that is added before all definitions has no places
  places_none : (s : Signature) (more : List (List ℕ)) → names.definitions ≡ [] → more ≡ groups ++ [] ∷ [] → AreByFunction (length (names.signatures ++ s ∷ [])) names.definitions more
  places_none s more before e =
      let count : length (names.signatures ++ s ∷ []) ≡ suc (length names.signatures) = length-append names.signatures (s ∷ []) ∙ add-one (length names.signatures) in
      let was = subst (λ (ds : List Def). AreByFunction (length names.signatures) ds groups) before is.by_place in
      subst (λ n. AreByFunction n names.definitions more) (sym count)
      (subst (λ (ds : List Def). AreByFunction (suc (length names.signatures)) ds more) (sym before) (none_more (length names.signatures) groups more was e))

  pub signature_more : (s : Signature) (signatures : List Signature) (new : List Word) (more : List (List ℕ)) → length names.signatures + 1 < 2 ^ 32 → names.definitions ≡ []
      → is_among s.name (function_words names) ≡ false → signatures ≡ names.signatures ++ s ∷ [] → new ≡ function_index ++ s.name ∷ [] → more ≡ groups ++ [] ∷ []
      → IsIndexed (record names { signatures = signatures }) word_index new definition_index more
  signature_more s signatures new more room before fresh e f g =
      subst (λ (ss : List Signature). IsIndexed (record names { signatures = ss }) word_index new definition_index more) (sym e) (record {
        made = signature_made names s is.made room fresh;
        by_word = is.by_word;
        by_function = f ∙ ap (λ (ws : List Word). ws ++ s.name ∷ []) is.by_function ∙ sym (map-append signature_name names.signatures (s ∷ []));
        by_body = is.by_body;
        by_place = places_none s more before g;
      })

-- ---- definitions
module _ (names : NameList) (body : Body) (made : IsMade names) (room : count names < most_names) (small : IsSmallBody body) (fresh : place body names.definitions ≡ None) where
  abbrev last : Def
  last = record { name = next names; body = body }

  all_named : (k : ℕ) (d : Def) → slice_get (names.definitions ++ last ∷ []) k ≡ Some d → d.name ≡ definition_name names k
  all_named k d h = elim (pushed names.definitions last k d h) [
    | inl s ↦ made.named k d s
    | inr w ↦ ap (λ (x : Def). x.name) w.1 ∙ ap (λ (j : ℕ). definition_name names j) (sym w.0)
  ]

  pub definition_made : IsMade (with_definition names body)
  definition_made =
      let each = map-append definition_body names.definitions (last ∷ []) in
      let new = subst (λ (r : Option ℕ). IsFirst body (bodies names) r) fresh (place_is_exact body names.definitions) in
      record {
        few = omega (arith, room, length-append names.definitions (last ∷ []));
        distinct = made.distinct;
        plain = made.plain;
        functions = made.functions;
        few_functions = made.few_functions;
        named = all_named;
        once = subst (λ (bs : List Body). IsOnce bs) (sym each) (once_push (bodies names) body made.once new);
        small = subst (λ (bs : List Body). All IsSmallBody bs) (sym each) (All-push IsSmallBody (bodies names) body made.small small);
      }

-- the index of cells beside the definitions
module _ (cells : List Cell) (index : List (List Cell)) (body : Body) (definitions : List Def) (indexed : index ≡ map definition_cells definitions) (same : cells ≡ body_cells body) where
  pub place_by_first : (r : Option ℕ) → IsFirst cells index r → r ≡ place body definitions
  place_by_first r first =
      same_first (body_cells body) (map definition_cells definitions) r (place body definitions)
      (subst (λ (xs : List (List Cell)). IsFirst (body_cells body) xs r) indexed (subst (λ (x : List Cell). IsFirst x index r) same first))
      (place_is_first body definitions)

  pub no_place : place body definitions ≡ None → IsFirst cells index None
  no_place none =
      subst (λ (x : List Cell). IsFirst x index None) (sym same) (subst (λ (xs : List (List Cell)). IsFirst (body_cells body) xs None) (sym indexed)
      (subst (λ (r : Option ℕ). IsFirst (body_cells body) (map definition_cells definitions) r) none (place_is_first body definitions)))

  indexed_more : (name : Def) → name.body ≡ body → (new : List (List Cell)) → new ≡ index ++ cells ∷ [] → new ≡ map definition_cells (definitions ++ name ∷ [])
  indexed_more d e new h =
      h ∙ (λ i. indexed i ++ same i ∷ []) ∙ ap (λ b. map definition_cells definitions ++ body_cells b ∷ []) (sym e) ∙ sym (map-append definition_cells definitions (d ∷ []))

module _ (names : NameList) (word_index function_index : List Word) (definition_index : List (List Cell)) (groups : List (List ℕ)) (is : IsIndexed names word_index function_index definition_index groups) where
  -- the word of the next definition is no word yet
  pub fresh_definition : (word : Word) → word ≡ made_word (length names.definitions + 1) → is_among word word_index ≡ false
  fresh_definition word e = (λ i. is_among (e i) (is.by_word i)) ∙ made_word_is_new names is.made

  pub definition_more : (body : Body) (cells : List Cell) (definitions : List Def) (words : List Word) (new : List (List Cell)) (more : List (List ℕ)) (word : Word) → count names < most_names → IsSmallBody body
      → place body names.definitions ≡ None → cells ≡ body_cells body → word ≡ made_word (length names.definitions + 1)
      → definitions ≡ names.definitions ++ record { name = next names; body = body } ∷ [] → words ≡ word_index ++ word ∷ [] → new ≡ definition_index ++ cells ∷ []
      → more ≡ with_place groups (length names.definitions) (applied body) → IsIndexed (record names { definitions = definitions }) words function_index new more
  definition_more body cells definitions words new more word room small fresh same spelled e f g h =
      let last : Def = record { name = next names; body = body } in
      subst (λ (ds : List Def). IsIndexed (record names { definitions = ds }) words function_index new more) (sym e) (record {
        made = definition_made names body is.made room small fresh;
        by_word = f ∙ (λ i. is.by_word i ++ spelled i ∷ []) ∙ sym (words_with_definition names body);
        by_function = is.by_function;
        by_body = indexed_more cells definition_index body names.definitions is.by_body same last refl new g;
        by_place = subst (λ gs. AreByFunction (length names.signatures) (names.definitions ++ last ∷ []) gs) (sym h) (by_function_more (length names.signatures) names.definitions last groups is.by_place);
      })
