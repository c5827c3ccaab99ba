-- What stays while definitions are added at the end.
use Rattle.std.proofs.Common.{◌≡◌, ℕ, ◌+◌, ◌≤◌, ◌++◌, List, [], ◌∷◌, length, map, take, Option, Some, None, slice_get, refl, sym, ap, subst, ◌∙◌, arith, inl, inr, append_assoc, length-append}
use Rattle.std.proofs.lemmas.List.{length-map, map-append, take-append-le}
use Rattle.std.proofs.lemmas.Option.{slice_get_within}
use Rattle.hp_terms.specs.Words.{numbered}
use Rattle.hp_tree.specs.Value.{Word}
use Rattle.hp_lit.specs.Growing.{Begins}
use Rattle.hp_lit.specs.Words.{number}
use Rattle.hp_lit.specs.declared.literal.Name.{Name}
use Rattle.hp_lit.proofs.Words as standing
use Rattle.hp_lit.proofs.Growing.{begins_more, begins_same, begins_then}
use Rattle.hp_lit.specs.declared.line.Body.{Body}
use Rattle.hp_lit.specs.declared.line.Def.{Def}
use Rattle.hp_defs.specs.declared.names.Constant.{Constant}
use Rattle.hp_defs.specs.declared.names.Signature.{Signature}
use Rattle.hp_defs.specs.First.{IsFirst}
use Rattle.hp_defs.specs.Laws.{NamesStay}
use Rattle.hp_defs.specs.Made.{IsMade}
use Rattle.hp_defs.specs.Names.{BeginsNames, NameList, bodies, constant_name, constant_sort, constant_words, count, definition_body, first_names, next, sort_of_definition, sorts, with_definition, words}
use Rattle.hp_defs.specs.Same.{place}
use Rattle.hp_defs.proofs.Distinct.{numbered_append, words_stand_for_names}
use Rattle.hp_defs.proofs.First.{same_first}
use Rattle.hp_defs.proofs.Lists.{added_first, get_front, split}
use Rattle.hp_defs.proofs.Same.{place_is_exact}

-- ---- the order of growing
pub begins_itself : (names : NameList) → BeginsNames names names
begins_itself names = record { constants = refl; signatures = refl; definitions = begins_same names.definitions names.definitions refl }

pub begins_through : (old mid new : NameList) → BeginsNames old mid → BeginsNames mid new → BeginsNames old new
begins_through old mid new p q = record {
  constants = q.constants ∙ p.constants;
  signatures = q.signatures ∙ p.signatures;
  definitions = begins_then old.definitions mid.definitions new.definitions p.definitions q.definitions;
}

pub begins_with_definition : (names : NameList) (body : Body) → BeginsNames names (with_definition names body)
begins_with_definition names body = record {
  constants = refl;
  signatures = refl;
  definitions = begins_more names.definitions (record { name = next names; body = body } ∷ []) (names.definitions ++ record { name = next names; body = body } ∷ []) refl;
}

-- ---- words and sorts
begins_after : {A : Type 0} (front xs ys : List A) → Begins xs ys → Begins (front ++ xs) (front ++ ys)
begins_after front xs ys b = record { more = b.more; all = ap (λ zs. front ++ zs) b.all ∙ sym (append_assoc front xs b.more) }

begins_map : {A B : Type 0} (f : A → B) (xs ys : List A) → Begins xs ys → Begins (map f xs) (map f ys)
begins_map f xs ys b = record { more = map f b.more; all = ap (map f) b.all ∙ map-append f xs b.more }

begins_numbered : (n m : ℕ) → Begins (numbered 1 n) (numbered 1 (n + m))
begins_numbered n m = record { more = numbered (1 + n) m; all = numbered_append 1 n m }

words_begin : (old new : NameList) → BeginsNames old new → Begins (words old) (words new)
words_begin old new g =
    let n = length old.definitions in
    let m = length g.definitions.more in
    let all : length new.definitions ≡ n + m = ap (λ (ds : List Def). length ds) g.definitions.all ∙ length-append old.definitions g.definitions.more in
    subst (λ (cs : List Constant). Begins (words old) (map constant_name cs ++ numbered 1 (length new.definitions))) (sym g.constants)
    (subst (λ (k : ℕ). Begins (words old) (constant_words old ++ numbered 1 k)) (sym all) (begins_after (constant_words old) (numbered 1 n) (numbered 1 (n + m)) (begins_numbered n m)))

pub sorts_begin : (old new : NameList) → BeginsNames old new → Begins (sorts old) (sorts new)
sorts_begin old new g =
    subst (λ (cs : List Constant). Begins (sorts old) (map constant_sort cs ++ map (sort_of_definition new.signatures) new.definitions)) (sym g.constants)
    (subst (λ (ss : List Signature). Begins (sorts old) (map constant_sort old.constants ++ map (sort_of_definition ss) new.definitions)) (sym g.signatures)
    (begins_after (map constant_sort old.constants) (map (sort_of_definition old.signatures) old.definitions) (map (sort_of_definition old.signatures) new.definitions)
    (begins_map (sort_of_definition old.signatures) old.definitions new.definitions g.definitions)))

-- as many sorts as names
pub length_sorts : (names : NameList) → length (sorts names) ≡ count names
length_sorts names =
    length-append (map constant_sort names.constants) (map (sort_of_definition names.signatures) names.definitions)
    ∙ (λ i. length-map names.constants constant_sort i + length-map names.definitions (sort_of_definition names.signatures) i)

pub names_begin : (old new : NameList) → BeginsNames old new → NamesStay old new
names_begin old new g = record { words = words_begin old new g; sorts = sorts_begin old new g }

-- ---- definitions
pub begins_get : {A : Type 0} (old new : List A) (k : ℕ) (x : A) → Begins old new → slice_get old k ≡ Some x → slice_get new k ≡ Some x
begins_get {A} old new k x b e = subst (λ (xs : List A). slice_get xs k ≡ Some x) (sym b.all) (get_front old b.more k x e)

-- a word stands for the same name while definitions are added
pub numbers_stay : (old new : NameList) (word : Word) (name : Name) → BeginsNames old new → IsMade new → number (words old) word ≡ Some name → number (words new) word ≡ Some name
numbers_stay old new word name g made e =
    let there = (standing.numbered (words old) word name e).there in
    words_stand_for_names new name.0 word made (begins_get (words old) (words new) name.0 word (words_begin old new g) there)

-- what stands first in front stands first in the whole list
first_front : {A : Type 0} (x : A) (xs ys : List A) (k : ℕ) → IsFirst x xs (Some k) → IsFirst x (xs ++ ys) (Some k)
first_front x xs ys k h = (get_front xs ys k x h.0, λ j g. elim (split xs ys j x g) [ inl a ↦ h.1 j a | inr w ↦ omega (arith, slice_get_within xs k x h.0, w.1) ])

pub places_stay : (body : Body) (old new : NameList) (k : ℕ) → BeginsNames old new → place body old.definitions ≡ Some k → place body new.definitions ≡ Some k
places_stay body old new k g e =
    let was = subst (λ (r : Option ℕ). IsFirst body (bodies old) r) e (place_is_exact body old.definitions) in
    let all : bodies new ≡ bodies old ++ map definition_body g.definitions.more = ap (map definition_body) g.definitions.all ∙ map-append definition_body old.definitions g.definitions.more in
    let first = subst (λ (bs : List Body). IsFirst body bs (Some k)) (sym all) (first_front body (bodies old) (map definition_body g.definitions.more) k was) in
    same_first body (bodies new) (place body new.definitions) (Some k) (place_is_exact body new.definitions) first

-- a definition that is added is found from then on
pub added_is_last : (body : Body) (names : NameList) → place body names.definitions ≡ None → place body (with_definition names body).definitions ≡ Some (length names.definitions)
added_is_last body names e =
    let was = subst (λ (r : Option ℕ). IsFirst body (bodies names) r) e (place_is_exact body names.definitions) in
    let last : Def = record { name = next names; body = body } in
    let all = map-append definition_body names.definitions (last ∷ []) in
    let first = subst (λ (bs : List Body). IsFirst body bs (Some (length (bodies names)))) (sym all) (added_first body (bodies names) was) in
    same_first body (bodies (with_definition names body)) (place body (names.definitions ++ last ∷ [])) (Some (length (bodies names))) (place_is_exact body (names.definitions ++ last ∷ [])) first
    ∙ ap Some (length-map names.definitions definition_body)

-- the names before a definition are the same as they were
pub first_names_stay : (old new : NameList) (k : ℕ) (d : Def) → BeginsNames old new → slice_get old.definitions k ≡ Some d → first_names k new ≡ first_names k old
first_names_stay old new k d g e =
    let few : k ≤ length old.definitions = omega (arith, slice_get_within old.definitions k d e) in
    let same : take k new.definitions ≡ take k old.definitions = ap (take k) g.definitions.all ∙ take-append-le k old.definitions g.definitions.more few in
    λ i. record { constants = g.constants i; signatures = g.signatures i; definitions = same i }
