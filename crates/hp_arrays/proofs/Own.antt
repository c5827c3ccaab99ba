-- The functions of a group of arrays by their places and by their words.
use Rattle.std.proofs.Common.{◌≡◌, ◌∙◌, inl, inr, ℕ, List, [], ◌∷◌, ◌++◌, Bool, true, false, ◌||◌, nat_eq, Option, Some, slice_get, refl, sym, ap, subst}
use Rattle.std.specs.Prelude.{option_and_then, option_map, position}
use Rattle.std.specs.List.{All, AllZip, Contains}
use Rattle.std.specs.Str.{bytes_eq}
use Rattle.std.proofs.lemmas.Bool.{eq-eqb, or_left, or_right}
use Rattle.std.proofs.lemmas.List.Elements.{All-cons, All-nil}
use Rattle.std.proofs.lemmas.Option.{same_Some}
use Rattle.hp_names.proofs.Texts.{same_text}
use Rattle.hp_tree.specs.declared.problem.Sort.TheVariants.{Idx, Num}
use Rattle.hp_tree.specs.Value.{Word}
use Rattle.hp_terms.specs.Scope.{Profile}
use Rattle.hp_defs.specs.declared.names.Signature.{Signature}
use Rattle.hp_defs.specs.Made.{IsMade}
use Rattle.hp_defs.specs.Names.{NameList, function_words, profile_of, signature_name}
use Rattle.hp_defs.proofs.Distinct.{position_of}
use Rattle.hp_local.specs.Frame.{is_own}
use Rattle.hp_local.proofs.Lists.{contains_cases, contains_first, contains_later, contains_none}
use Rattle.hp_base.proofs.ArgsDefined.{get_map}
use Rattle.hp_norm.specs.Scopes.{function_profile}
use Rattle.hp_class.specs.Frame.{is_place, signature_word, words_at}
use Rattle.hp_index_set.specs.Laws.{HasIndexArgument}
use Rattle.hp_arrays.specs.Arrays.{IsArray}

-- ---- names that grow
-- an array stays one while names are added
pub array_later : (old new : NameList) (func : ℕ) (word : Word) → new.signatures ≡ old.signatures → IsArray old func word → IsArray new func word
array_later old new func word e a = record {
  signature = a.signature;
  known = ap (λ (ss : List Signature). slice_get ss func) e ∙ a.known;
  name = a.name;
  arguments = a.arguments;
  result = a.result;
}

pub arrays_later : (old new : NameList) → new.signatures ≡ old.signatures → (own : List ℕ) (words : List Word) → AllZip (IsArray old) own words → AllZip (IsArray new) own words
arrays_later old new e [] [] h = h
arrays_later old new e [] (w ∷ ws) h = absurd h
arrays_later old new e (k ∷ ks) [] h = absurd h
arrays_later old new e (k ∷ ks) (w ∷ ws) h = (array_later old new k w e h.0, arrays_later old new e ks ws h.1)

module _ (names : NameList) where
  -- each has one argument, an index
  pub array_readers : (own : List ℕ) (words : List Word) → AllZip (IsArray names) own words → All (HasIndexArgument names) own
  array_readers [] [] h = All-nil (HasIndexArgument names)
  array_readers [] (w ∷ ws) h = absurd h
  array_readers (k ∷ ks) [] h = absurd h
  array_readers (k ∷ ks) (w ∷ ws) h =
      All-cons (HasIndexArgument names) k ks (record { signature = h.0.signature; known = h.0.known; arguments = h.0.arguments }) (array_readers ks ws h.1)

  pub words_are : (own : List ℕ) (words : List Word) → AllZip (IsArray names) own words → words_at names own ≡ words
  words_are [] [] h = refl
  words_are [] (w ∷ words) h = absurd h
  words_are (func ∷ own) [] h = absurd h
  words_are (func ∷ own) (w ∷ words) h =
      let a = h.0 in
      ap (λ (o : Option Signature). signature_word o ++ words_at names own) a.known ∙ (λ i. a.name i ∷ words_are own words h.1 i)

  -- an own function, which has this word
  pub record IsOwnWord (own : List ℕ) (word : Word) : Type 0 where
    pub func : ℕ
    pub among : Contains own func
    pub array : IsArray names func word

  pub own_word : (own : List ℕ) (words : List Word) → AllZip (IsArray names) own words → (word : Word) → is_own words word ≡ true → IsOwnWord own word
  own_word [] [] h word e = absurd (cc)
  own_word [] (w ∷ words) h word e = absurd h
  own_word (func ∷ own) [] h word e = absurd h
  own_word (func ∷ own) (w ∷ words) h word e = by (λ k. own_word own words h.1 word k) (bytes_eq w word) refl e
    where
      by : (is_own words word ≡ true → IsOwnWord own word) → (b : Bool) → bytes_eq w word ≡ b → (b || is_own words word) ≡ true → IsOwnWord (func ∷ own) word
      by rest true is k = record { func = func; among = contains_first func own; array = subst (IsArray names func) (same_text w word is) h.0 }
      by rest false is k = (let r = rest k in record { func = r.func; among = contains_later func own r.func r.among; array = r.array })

  -- ---- profiles
  module _ (made : IsMade names) where
    pub array_position : (func : ℕ) (word : Word) → IsArray names func word → position (bytes_eq word) (function_words names) ≡ Some func
    array_position func word a =
        position_of (function_words names) func word made.functions (get_map signature_name names.signatures func a.signature a.known ∙ ap Some a.name)

    pub array_profile : (func : ℕ) (word : Word) → IsArray names func word → (p : Profile) → function_profile names word ≡ Some p → p.result ≡ Num
    array_profile func word a p e =
        let is : function_profile names word ≡ Some (profile_of a.signature) =
        ap (λ (o : Option ℕ). option_map profile_of (option_and_then (λ at. slice_get names.signatures at) o)) (array_position func word a) ∙ ap (option_map profile_of) a.known in
        ap (λ (q : Profile). q.result) (sym (same_Some (profile_of a.signature) p (sym is ∙ e))) ∙ a.result

    pub array_arguments : (func : ℕ) (word : Word) → IsArray names func word → (at : ℕ) (s : Signature) → position (bytes_eq word) (function_words names) ≡ Some at → slice_get names.signatures at ≡ Some s
        → s.args ≡ Idx ∷ []
    array_arguments func word a at s e known =
        let same : func ≡ at = same_Some func at (sym (array_position func word a) ∙ e) in
        let there : a.signature ≡ s = same_Some a.signature s (sym a.known ∙ ap (slice_get names.signatures) same ∙ known) in
        ap (λ (z : Signature). z.args) (sym there) ∙ a.arguments
