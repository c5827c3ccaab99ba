-- The lower functions that the bounds of cases apply, by their places and by their words.
use Rattle.std.proofs.Common.{◌≡◌, ◌∙◌, ℕ, List, [], ◌∷◌, ◌++◌, Bool, true, false, ◌||◌, nat_eq, Option, Some, refl, sym, ap, subst, inl, inr}
use Rattle.std.specs.Prelude.{option_and_then, option_map, position, slice_get}
use Rattle.std.specs.List.{All, Contains}
use Rattle.std.specs.Str.{bytes_eq}
use Rattle.std.proofs.lemmas.Bool.{eq-eqb, or_left, or_right}
use Rattle.std.proofs.lemmas.List.Elements.{All-head, All-tail, All-weaker}
use Rattle.std.proofs.lemmas.Option.{same_Some}
use Rattle.hp_tree.specs.declared.problem.Sort.TheVariants.{Num}
use Rattle.hp_tree.specs.declared.term.Term.{Term}
use Rattle.hp_tree.specs.Value.{Word}
use Rattle.hp_names.specs.Names.{AreDistinct}
use Rattle.hp_names.proofs.Texts.{not_both, same_text}
use Rattle.hp_defs.specs.declared.names.Signature.{Signature}
use Rattle.hp_defs.specs.Names.{NameList, function_words, profile_of, signature_name}
use Rattle.hp_defs.proofs.Distinct.{position_of}
use Rattle.hp_base.proofs.ArgsDefined.{get_map}
use Rattle.hp_local.specs.Frame.{is_own}
use Rattle.hp_local.proofs.Lists.{contains_cases, contains_first, contains_later, contains_none}
use Rattle.hp_norm.specs.Laws.{WordPasses}
use Rattle.hp_norm.specs.Scopes.{function_profile}
use Rattle.hp_class.specs.Frame.{is_function, is_place, signature_word, words_at}
use Rattle.hp_flatten.specs.declared.application.Application.{Application}
use Rattle.hp_flatten.specs.Applications.{applications}
use Rattle.hp_flatten.specs.Laws.{AreNum}
use Rattle.hp_cases.specs.Cases.{AppliesThese, IsLowerFunction}

-- ---- places
pub place_among : (applied : List ℕ) (func : ℕ) → Contains applied func → is_place applied func ≡ true
place_among [] func m = absurd (contains_none func m)
place_among (k ∷ applied) func m = elim (contains_cases k applied func m) [
  | inl e ↦ or_left (nat_eq k func) (is_place applied func) (eq-eqb k func e)
  | inr n ↦ or_right (nat_eq k func) (is_place applied func) (place_among applied func n)
]

-- ---- names that grow
words_stay : (old new : NameList) → new.signatures ≡ old.signatures → (funcs : List ℕ) → words_at new funcs ≡ words_at old funcs
words_stay old new e [] = refl
words_stay old new e (func ∷ funcs) = (λ i. signature_word (slice_get (e i) func) ++ words_stay old new e funcs i)

pub applied_stay : (old new : NameList) → new.signatures ≡ old.signatures → (applied : List ℕ) (t : Term) → AppliesThese old applied t → AppliesThese new applied t
applied_stay old new e applied t h = subst (λ (ws : List Word). All (λ (a : Application). is_own ws a.func ≡ true) (applications t)) (sym (words_stay old new e applied)) h

pub lower_stay : (old new : NameList) → new.signatures ≡ old.signatures → (applied : List ℕ) → All (IsLowerFunction old) applied → All (IsLowerFunction new) applied
lower_stay old new e applied h =
    All-weaker (IsLowerFunction old) (IsLowerFunction new)
    (λ k l. record { signature = l.signature; known = ap (λ (ss : List Signature). slice_get ss k) e ∙ l.known; nums = l.nums; result = l.result }) applied h

module _ (names : NameList) where
  -- ---- words
  -- the lower function with a word
  pub record IsLowerWord (applied : List ℕ) (word : Word) : Type 0 where
    pub func : ℕ
    pub among : Contains applied func
    pub signature : Signature
    pub known : slice_get names.signatures func ≡ Some signature
    pub name : signature.name ≡ word
    pub nums : AreNum signature.args
    pub result : signature.result ≡ Num

  pub lower_word : (applied : List ℕ) → All (IsLowerFunction names) applied → (word : Word) → is_function names applied word ≡ true → IsLowerWord applied word
  lower_word [] h word e = absurd (cc)
  lower_word (k ∷ applied) h word e =
      let l = All-head (IsLowerFunction names) k applied h in
      by l (λ r. lower_word applied (All-tail (IsLowerFunction names) k applied h) word r) (bytes_eq l.signature.name word) refl
      (sym (ap (λ (o : Option Signature). is_own (signature_word o ++ words_at names applied) word) l.known) ∙ e)
    where
      by : (l : IsLowerFunction names k) → (is_function names applied word ≡ true → IsLowerWord applied word) → (b : Bool) → bytes_eq l.signature.name word ≡ b → (b || is_function names applied word) ≡ true
          → IsLowerWord (k ∷ applied) word
      by l rest true is h =
          record { func = k; among = contains_first k applied; signature = l.signature; known = l.known; name = same_text l.signature.name word is; nums = l.nums; result = l.result }
      by l rest false is h =
          let r = rest h in
          record { func = r.func; among = contains_later k applied r.func r.among; signature = r.signature; known = r.known; name = r.name; nums = r.nums; result = r.result }

  module _ (distinct : AreDistinct (function_words names)) where
    position_is : (func : ℕ) (s : Signature) → slice_get names.signatures func ≡ Some s → position (bytes_eq s.name) (function_words names) ≡ Some func
    position_is func s known = position_of (function_words names) func s.name distinct (get_map signature_name names.signatures func s known)

    pub profile_is : (func : ℕ) (s : Signature) → slice_get names.signatures func ≡ Some s → function_profile names s.name ≡ Some (profile_of s)
    profile_is func s known =
        ap (λ (o : Option ℕ). option_map profile_of (option_and_then (λ k. slice_get names.signatures k) o)) (position_is func s known) ∙ ap (λ o. option_map profile_of o) known

    module _ (applied : List ℕ) (lower : All (IsLowerFunction names) applied) where
      -- a word of these functions is that of one at these places
      pub word_passes : (word : Word) → is_function names applied word ≡ true → WordPasses (is_place applied) (function_words names) word
      word_passes word e func at =
          let l = lower_word applied lower word e in
          let here = ap (λ (w : Word). position (bytes_eq w) (function_words names)) (sym l.name) ∙ position_is l.func l.signature l.known in
          let same : l.func ≡ func = same_Some l.func func (sym here ∙ at) in
          place_among applied func (subst (λ k. Contains applied k) same l.among)

      -- and so no other function has it
      pub other_word : (func : ℕ) (s : Signature) → slice_get names.signatures func ≡ Some s → is_place applied func ≡ false → (word : Word) → is_function names applied word ≡ true → bytes_eq s.name word ≡ false
      other_word func s known others word e = by (bytes_eq s.name word) refl
        where
          by : (b : Bool) → bytes_eq s.name word ≡ b → b ≡ false
          by false is = refl
          by true is =
              let at = ap (λ (w : Word). position (bytes_eq w) (function_words names)) (sym (same_text s.name word is)) ∙ position_is func s known in
              absurd (not_both (is_place applied func) others (word_passes word e func at))
