-- The pointers of a group of fields, its functions, and their points.
use Rattle.std.proofs.Common.{◌≡◌, ◌∙◌, ◌+◌, ◌<◌, ◌≤◌, inl, inr, ◌⊎◌, ℕ, zero, suc, pos, List, [], ◌∷◌, ◌++◌, map, length, Bool, true, false, ◌&&◌, ◌||◌, IsTrue, Option, Some, None, slice_get, refl, sym, ap, subst, arith}
use Rattle.std.specs.Prelude.{option_and_then, option_map, position}
use Rattle.std.specs.List.{All, AllZip, Contains}
use Rattle.std.specs.Str.{bytes_eq}
use Rattle.std.proofs.lemmas.Bool.{and_from, and_parts}
use Rattle.std.proofs.lemmas.List.Elements.{All-cons, All-contains, All-nil, Contains-append_cases, Contains-append_right}
use Rattle.hp_math.specs.Rational.{ℚ, is_whole, le_ℚ, lt_ℚ, whole}
use Rattle.hp_math.proofs.Laws.{tests_decide}
use Rattle.hp_names.proofs.Texts.{same_text}
use Rattle.hp_tree.specs.declared.problem.Sort.{Sort}
use Rattle.hp_tree.specs.declared.problem.Sort.TheVariants.{Num, Idx, Ptr}
use Rattle.hp_tree.specs.Sorted.{is_of_sort}
use Rattle.hp_tree.specs.Value.{Word}
use Rattle.hp_terms.specs.Scope.{Profile}
use Rattle.hp_terms.proofs.Whole.{null_pointer}
use Rattle.hp_lit.specs.declared.line.Arg.{Arg}
use Rattle.hp_lit.specs.declared.line.Arg.TheVariants.{Number, Named, Index, Null}
use Rattle.hp_lit.specs.Sorts.{HaveSorts, IsOfSort}
use Rattle.hp_lit.specs.Truth.{Values, name_value}
use Rattle.hp_local.specs.Fields.{IsFieldFact, is_pointer}
use Rattle.hp_local.specs.Frame.{Fact, is_own}
use Rattle.hp_local.specs.Ordered.{first_argument}
use Rattle.hp_local.specs.Rows.{own_facts}
use Rattle.hp_local.proofs.Lists.{All-by, contains_cases, contains_first, contains_later, contains_none, map_contains}
use Rattle.hp_defs.specs.declared.names.Signature.{Signature}
use Rattle.hp_defs.specs.Fit.{ArgFits, IsFitNames}
use Rattle.hp_defs.specs.Made.{IsMade, IsSmallArg}
use Rattle.hp_defs.specs.Names.{BeginsNames, NameList, function_words, profile_of, signature_name, sorts}
use Rattle.hp_defs.proofs.Distinct.{position_of}
use Rattle.hp_defs.proofs.Growing.{begins_get, sorts_begin}
use Rattle.hp_base.proofs.ArgsDefined.{get_map}
use Rattle.hp_base.specs.Congruence.{Point}
use Rattle.hp_base.specs.Laws.{IsPoint}
use Rattle.hp_base.specs.Values.{arg_value, arg_values}
use Rattle.hp_norm.specs.Scopes.{function_profile}
use Rattle.hp_class.specs.Frame.{definition_facts, fact_of, facts_of, signature_word, words_at}
use Rattle.hp_class.specs.Points.{points}
use Rattle.hp_class.proofs.Facts.{own_facts_are_points}
use Rattle.hp_class.proofs.Points.{are_points}
use Rattle.hp_flatten.specs.Sorts.{is_ptr}
use Rattle.hp_null_guards.specs.Laws.{IsFieldSort}
use Rattle.hp_fields.specs.Fields.{IsField, gives, pointer_at, pointer_terms, pointers_from}

-- ---- pointers
-- a name of sort ptr
abbrev pub IsPointerArg : List Sort → Arg → Type 0
IsPointerArg ss x = ArgFits ss Ptr x × IsSmallArg x

pointers_fit : (all : List Sort) (n : ℕ) (ss : List Sort) → ((k : ℕ) (s : Sort) → slice_get ss k ≡ Some s → slice_get all (n + k) ≡ Some s) → (x : Arg) → Contains (pointers_from n ss) x → IsPointerArg all x
pointers_fit all n [] there x m = absurd (contains_none x m)
pointers_fit all n (s ∷ ss) there x m = by s refl (Contains-append_cases (pointer_at n s) (pointers_from (suc n) ss) x m)
    (λ h. pointers_fit all (suc n) ss (λ k t e. (let same : n + suc k ≡ suc n + k = omega arith in ap (λ j. slice_get all j) (sym same) ∙ there (suc k) t e)) x h)
  where
    here : (t : Sort) → s ≡ t → slice_get all n ≡ Some t
    here t is = (let same : n + 0 ≡ n = omega arith in ap (λ j. slice_get all j) (sym same) ∙ there 0 t (ap Some is))

    by : (t : Sort) → s ≡ t → Contains (pointer_at n s) x ⊎ Contains (pointers_from (suc n) ss) x → (Contains (pointers_from (suc n) ss) x → IsPointerArg all x) → IsPointerArg all x
    by t is (inr h) rest = rest h
    by Num is (inl h) rest = absurd (contains_none x (subst (λ (r : Sort). Contains (pointer_at n r) x) is h))
    by Idx is (inl h) rest = absurd (contains_none x (subst (λ (r : Sort). Contains (pointer_at n r) x) is h))
    by Ptr is (inl h) rest = elim (contains_cases (Named (record { 0 = n })) [] x (subst (λ (r : Sort). Contains (pointer_at n r) x) is h)) [
      | inl e ↦ subst (IsPointerArg all) e (here Ptr is, tt)
      | inr none ↦ absurd (contains_none x none)
    ]

-- the terms of the first names are pointers
pub terms_fit : (front names : NameList) → BeginsNames front names → (x : Arg) → Contains (pointer_terms front) x → IsPointerArg (sorts names) x
terms_fit front names begins x m = elim (contains_cases Null (pointers_from 0 (sorts front)) x m) [
  | inl e ↦ subst (IsPointerArg (sorts names)) e (tt, tt)
  | inr h ↦ pointers_fit (sorts names) 0 (sorts front) (λ k s e. (let same : 0 + k ≡ k = omega arith in ap (λ j. slice_get (sorts names) j) same
      ∙ begins_get (sorts front) (sorts names) k s (sorts_begin front names begins) e)) x h
]

-- a name of sort ptr is one of them
pub pointer_there : (n k : ℕ) (ss : List Sort) → slice_get ss k ≡ Some Ptr → Contains (pointers_from n ss) (Named (record { 0 = n + k }))
pointer_there n k [] e = absurd (cc)
pointer_there n zero (s ∷ ss) e =
    let is : s ≡ Ptr = cc in
    let same : n ≡ n + 0 = omega arith in
    subst (λ j. Contains (pointer_at n s ++ pointers_from (suc n) ss) (Named (record { 0 = j }))) same
    (subst (λ (r : Sort). Contains (pointer_at n r ++ pointers_from (suc n) ss) (Named (record { 0 = n }))) (sym is) (contains_first (Named (record { 0 = n })) (pointers_from (suc n) ss)))
pointer_there n (suc k) (s ∷ ss) e =
    let same : suc n + k ≡ n + suc k = omega arith in
    Contains-append_right (pointer_at n s) (pointers_from (suc n) ss) (Named (record { 0 = n + suc k }))
    (subst (λ j. Contains (pointers_from (suc n) ss) (Named (record { 0 = j }))) same (pointer_there (suc n) k ss e))

-- ---- values
pub null_is : IsTrue (is_pointer (whole (pos 0)))
null_is =
    (and_parts (is_whole (whole (pos 0)) && le_ℚ (whole (pos 0)) (whole (pos 0))) (lt_ℚ (whole (pos 0)) (whole (pos 1))) (null_pointer 1 (omega arith))).0

pointer_value : (ss : List Sort) (v : Values) → HaveSorts ss v → (x : Arg) → ArgFits ss Ptr x → IsTrue (is_pointer (arg_value v x))
pointer_value ss v have (Number q) h = absurd h
pointer_value ss v have (Named n) h = (let w = have n.0 Ptr h in and_from (is_whole (name_value v n.0)) (le_ℚ (whole (pos 0)) (name_value v n.0)) w.0 ((tests_decide.le (whole (pos 0)) (name_value v n.0)).1 w.1))
pointer_value ss v have (Index base offset) h = absurd h
pointer_value ss v have Null h = null_is

-- ---- functions
module _ (names : NameList) (made : IsMade names) where
  pub field_profile : (func : ℕ) (word : Word) (f : IsField names func word) → function_profile names word ≡ Some (profile_of f.signature)
  field_profile func word f =
      ap (λ (o : Option ℕ). option_map profile_of (option_and_then (λ at. slice_get names.signatures at) o))
      (position_of (function_words names) func word made.functions (get_map signature_name names.signatures func f.signature f.known ∙ ap Some f.name))
      ∙ ap (option_map profile_of) f.known

  pub field_gives : (func : ℕ) (word : Word) (f : IsField names func word) → gives names word ≡ is_ptr f.signature.result
  field_gives func word f = ap (λ (o : Option Profile). gives_of o) (field_profile func word f)
    where
      gives_of : Option Profile → Bool
      gives_of None = false
      gives_of (Some p) = is_ptr p.result

  -- ---- points
  module _ (v : Values) (have : HaveSorts (sorts names) v) where
    one_arg : (ss : List Sort) (args : List Arg) → ss ≡ Ptr ∷ [] → AllZip (ArgFits (sorts names)) ss args → (length (arg_values v args) ≡ 1) × IsTrue (is_pointer (first_argument (arg_values v args)))
    one_arg ss args e h = with_one args (subst (λ (rs : List Sort). AllZip (ArgFits (sorts names)) rs args) e h)
      where
        with_one : (xs : List Arg) → AllZip (ArgFits (sorts names)) (Ptr ∷ []) xs → (length (arg_values v xs) ≡ 1) × IsTrue (is_pointer (first_argument (arg_values v xs)))
        with_one [] h = absurd h
        with_one (x ∷ []) h = (refl, pointer_value (sorts names) v have x h.0)
        with_one (x ∷ y ∷ xs) h = absurd h.1

    value_is : (s : Sort) (n : ℕ) → slice_get (sorts names) n ≡ Some s → is_ptr s ≡ true → IsTrue (is_pointer (name_value v n))
    value_is Num n e p = absurd (let no : false ≡ true = p in cc)
    value_is Idx n e p = absurd (let no : false ≡ true = p in cc)
    value_is Ptr n e p = pointer_value (sorts names) v have (Named (record { 0 = n })) e

    pub point_fact : (func : ℕ) (word : Word) (f : IsField names func word) (p : Point) → IsPoint (sorts names) f.signature p → IsFieldFact (gives names word) (fact_of word v p)
    point_fact func word f p is =
        let one = one_arg f.signature.args p.args f.arguments is.args in
        record { arguments = one.0; argument = one.1; result = λ e. value_is f.signature.result p.name.0 is.name (sym (field_gives func word f) ∙ e) }

    pub field_facts : IsFitNames names → (func : ℕ) (word : Word) (f : IsField names func word)
        → All (IsFieldFact (gives names word)) (own_facts word (definition_facts names.signatures v names.definitions))
    field_facts fit func word f =
        let all : own_facts word (definition_facts names.signatures v names.definitions) ≡ facts_of func word names v =
        subst (λ (w : Word). own_facts w (definition_facts names.signatures v names.definitions) ≡ facts_of func w names v) f.name (own_facts_are_points names v func f.signature made f.known) in
        subst (λ (ks : List Fact). All (IsFieldFact (gives names word)) ks) (sym all)
        (All-by (IsFieldFact (gives names word)) (facts_of func word names v)
        (λ k m. (let w = map_contains (fact_of word v) (points func names.definitions) k m in
        subst (IsFieldFact (gives names word)) w.2 (point_fact func word f w.0 (are_points names made fit func f.signature f.known w.0 w.1)))))

-- ---- names that grow
pub field_later : (old new : NameList) → new.signatures ≡ old.signatures → (func : ℕ) (word : Word) → IsField old func word → IsField new func word
field_later old new e func word f = record {
  signature = f.signature;
  known = ap (λ (ss : List Signature). slice_get ss func) e ∙ f.known;
  name = f.name;
  arguments = f.arguments;
  result = f.result;
}

pub fields_later : (old new : NameList) → new.signatures ≡ old.signatures → (own : List ℕ) (words : List Word) → AllZip (IsField old) own words → AllZip (IsField new) own words
fields_later old new e [] [] h = h
fields_later old new e [] (w ∷ ws) h = absurd h
fields_later old new e (k ∷ ks) [] h = absurd h
fields_later old new e (k ∷ ks) (w ∷ ws) h = (field_later old new e k w h.0, fields_later old new e ks ws h.1)

pub words_are : (names : NameList) (own : List ℕ) (words : List Word) → AllZip (IsField names) own words → words_at names own ≡ words
words_are names [] [] h = refl
words_are names [] (w ∷ words) h = absurd h
words_are names (func ∷ own) [] h = absurd h
words_are names (func ∷ own) (w ∷ words) h =
    ap (λ (o : Option Signature). signature_word o ++ words_at names own) h.0.known ∙ (λ i. h.0.name i ∷ words_are names own words h.1 i)

-- an own function by its word
pub record IsOwnField (names : NameList) (own : List ℕ) (word : Word) : Type 0 where
  pub func : ℕ
  pub field : IsField names func word

pub own_field : (names : NameList) (own : List ℕ) (words : List Word) → AllZip (IsField names) own words → (word : Word) → is_own words word ≡ true → IsOwnField names own word
own_field names [] [] h word e = absurd (let no : false ≡ true = e in cc)
own_field names [] (w ∷ words) h word e = absurd h
own_field names (func ∷ own) [] h word e = absurd h
own_field names (func ∷ own) (w ∷ words) h word e = by (λ k. own_field names own words h.1 word k) (bytes_eq w word) refl e
  where
    by : (is_own words word ≡ true → IsOwnField names own word) → (b : Bool) → bytes_eq w word ≡ b → (b || is_own words word) ≡ true → IsOwnField names (func ∷ own) word
    by rest true is k = record { func = func; field = subst (IsField names func) (same_text w word is) h.0 }
    by rest false is k = (let r = rest k in record { func = r.func; field = r.field })
