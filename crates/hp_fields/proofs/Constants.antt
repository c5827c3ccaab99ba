-- The pointers that a clause may name: names of sort ptr, whose values are in the universe.
use Rattle.std.proofs.Common.{◌≡◌, ◌∙◌, ◌+◌, ℕ, zero, suc, List, [], ◌∷◌, map, Bool, true, false, IsTrue, Option, Some, None, slice_get, refl, sym, ap, subst, arith}
use Rattle.std.specs.Prelude.{option_and_then, option_map, position}
use Rattle.std.specs.List.{All, Contains}
use Rattle.std.specs.Str.{bytes_eq}
use Rattle.std.proofs.lemmas.List.Elements.{All-contains}
use Rattle.hp_math.specs.Rational.{ℚ}
use Rattle.hp_tree.specs.declared.problem.Sort.{Sort}
use Rattle.hp_tree.specs.declared.problem.Sort.TheVariants.{Num, Idx, Ptr}
use Rattle.hp_tree.specs.Sorted.{is_of_sort}
use Rattle.hp_tree.specs.Value.{Word}
use Rattle.hp_lit.specs.declared.line.Arg.{Arg}
use Rattle.hp_lit.specs.declared.line.Arg.TheVariants.{Named, Null}
use Rattle.hp_lit.specs.Truth.{Values, name_value}
use Rattle.hp_lit.specs.Words.{Agrees}
use Rattle.hp_lit.proofs.Words.{agrees_front, numbered as numbered_stands}
use Rattle.hp_local.proofs.Lists.{contains_later}
use Rattle.hp_defs.specs.declared.names.Signature.{Signature}
use Rattle.hp_defs.specs.Made.{IsMade}
use Rattle.hp_defs.specs.Names.{BeginsNames, NameList, profile_of, signature_name, sorts, words}
use Rattle.hp_defs.proofs.Distinct.{words_are_distinct}
use Rattle.hp_defs.proofs.Growing.{names_begin}
use Rattle.hp_base.specs.Lines.{flat_scope}
use Rattle.hp_base.specs.Values.{arg_value}
use Rattle.hp_class.specs.Frame.{environment}
use Rattle.hp_class.proofs.Through.{words_agree}
use Rattle.hp_flatten.specs.Sorts.{is_ptr}
use Rattle.hp_fields.specs.Fields.{IsUniverse, pointer_terms, pointers_from}
use Rattle.hp_fields.proofs.Pointers.{pointer_there}

-- ---- words
abbrev pub is_pointer_sort : Option Sort → Bool
is_pointer_sort None = false
is_pointer_sort (Some sort) = is_ptr sort

-- a word of sort ptr
abbrev pub is_constant : NameList → Word → Bool
is_constant names word = is_pointer_sort ((flat_scope names).name word)

pointer_sort_is : (o : Option Sort) → is_pointer_sort o ≡ true → o ≡ Some Ptr
pointer_sort_is None e = absurd (let no : false ≡ true = e in cc)
pointer_sort_is (Some Num) e = absurd (let no : false ≡ true = e in cc)
pointer_sort_is (Some Idx) e = absurd (let no : false ≡ true = e in cc)
pointer_sort_is (Some Ptr) e = refl

there : (ws : List Word) (word : Word) (k : ℕ) → position (bytes_eq word) ws ≡ Some k → slice_get ws k ≡ Some word
there ws word k e = (numbered_stands ws word (record { 0 = k }) (ap (option_map (λ at. record { 0 = at })) e)).there

module _ (old names : NameList) (begins : BeginsNames old names) (made : IsMade names) (size : ℕ) (v : Values) (placed : IsUniverse size v (pointer_terms old)) where
  agrees : Agrees (words old) v (environment (words names) v)
  agrees =
      let front = (names_begin old names begins).words in
      agrees_front (words old) front.more v (environment (words names) v)
      (subst (λ (ws : List Word). Agrees ws v (environment (words names) v)) front.all (words_agree (words names) v (words_are_distinct names made)))

  pointer_inside : (k : ℕ) → slice_get (sorts old) k ≡ Some Ptr → IsTrue (is_of_sort size Ptr (name_value v k))
  pointer_inside k e =
      let same : 0 + k ≡ k = omega arith in
      subst (λ j. IsTrue (is_of_sort size Ptr (name_value v j))) same
      (All-contains (λ x. IsTrue (is_of_sort size Ptr (arg_value v x))) (pointer_terms old) (Named (record { 0 = 0 + k })) placed.inside
      (contains_later Null (pointers_from 0 (sorts old)) (Named (record { 0 = 0 + k })) (pointer_there 0 k (sorts old) e)))

  pub constant_inside : (word : Word) → IsTrue (is_constant old word) → IsTrue (is_of_sort size Ptr (environment (words names) v word))
  constant_inside word e = by (position (bytes_eq word) (words old)) refl e
    where
      by : (o : Option ℕ) → position (bytes_eq word) (words old) ≡ o → is_pointer_sort (option_and_then (λ at. slice_get (sorts old) at) o) ≡ true
          → IsTrue (is_of_sort size Ptr (environment (words names) v word))
      by None at h = absurd (let no : false ≡ true = h in cc)
      by (Some k) at h =
          subst (λ (x : ℚ). IsTrue (is_of_sort size Ptr x)) (sym (agrees k word (there (words old) word k at))) (pointer_inside k (pointer_sort_is (slice_get (sorts old) k) h))
