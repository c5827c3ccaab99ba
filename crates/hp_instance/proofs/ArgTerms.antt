-- The term of an argument: it has the sort of the argument, and its value.
use Rattle.std.proofs.Common.{◌≡◌, ◌<◌, ℕ, zero, suc, List, [], ◌∷◌, length, true, false, ◌&&◌, ◌||◌, pos, Some, None, slice_get, refl, sym, ap, subst, ◌∙◌, arith}
use Rattle.std.specs.Prelude.{option_and_then, slice_index_or}
use Rattle.std.proofs.lemmas.Option.{slice_get_within}
use Rattle.hp_math.specs.Rational.{ℚ, whole, is_whole, ◌+ℚ◌}
use Rattle.hp_math.proofs.Field.{+ℚ_comm, +ℚ_zero}
use Rattle.hp_tree.specs.declared.term.Term.{Term, Name, Number, Null, Add, fold-roll-Term}
use Rattle.hp_tree.specs.declared.term.Term.TheOpen.{Term-F}
use Rattle.hp_tree.specs.declared.term.Term.TheVariants.{rolls-Add, rolls-Name, rolls-Null, rolls-Number}
use Rattle.hp_tree.specs.declared.problem.Sort.{Sort}
use Rattle.hp_tree.specs.declared.problem.Sort.TheVariants.{Num, Idx, Ptr}
use Rattle.hp_tree.specs.Value.{Word, Environment, Functions, value, value_step}
use Rattle.hp_terms.specs.declared.forms.Forms.{Forms}
use Rattle.hp_terms.specs.Scope.{Scope}
use Rattle.hp_terms.specs.Sorting.{forms_of, forms_step, has_form, name_forms, number_forms, sort_forms, sum_forms}
use Rattle.hp_terms.proofs.Whole.{whole-whole}
use Rattle.hp_lit.specs.declared.literal.Name as literal
use Rattle.hp_lit.specs.declared.line.Arg.{Arg}
use Rattle.hp_lit.specs.declared.line.Arg.TheVariants as arg
use Rattle.hp_lit.specs.Truth.{Values, name_value}
use Rattle.hp_lit.specs.Words.{Agrees}
use Rattle.hp_defs.specs.Names.{NameList, count, sorts, words}
use Rattle.hp_defs.specs.Fit.{ArgFits}
use Rattle.hp_defs.specs.Made.{IsMade}
use Rattle.hp_defs.proofs.Distinct.{length_words, position_of, words_are_distinct}
use Rattle.hp_defs.proofs.Growing.{length_sorts}
use Rattle.hp_base.specs.Lines.{flat_scope}
use Rattle.hp_base.specs.Values.{arg_value}
use Rattle.hp_local.proofs.Terms as terms
use Rattle.hp_norm.specs.Scopes.{term_scope}
use Rattle.hp_norm.proofs.FormsKept.{KeepsForms, same_kept}
use Rattle.hp_instance.specs.Replacing.{IsKnownArg, arg_term, name_word}

-- what stands at a place below the length
pub get_there : {A : Type 0} (xs : List A) (k : ℕ) (d : A) → k < length xs → slice_get xs k ≡ Some (slice_index_or xs k d)
get_there [] k d h = absurd (omega arith)
get_there (x ∷ xs) zero d h = refl
get_there (x ∷ xs) (suc k) d h = get_there xs k d (omega arith)

-- ---- forms
pub name_is : (scope : Scope) (word : Word) → forms_of scope (Name word) ≡ name_forms (scope.name word)
name_is scope word = ap (forms_of scope) (sym (rolls-Name word)) ∙ fold-roll-Term Forms (forms_step scope) (Term-F.Name word)

number_is : (scope : Scope) (n : ℚ) → forms_of scope (Number n) ≡ number_forms scope.pointer n
number_is scope n = ap (forms_of scope) (sym (rolls-Number n)) ∙ fold-roll-Term Forms (forms_step scope) (Term-F.Number n)

module _ (names : NameList) where
  -- ---- names
  pub name_known : (name : literal.Name) (sort : Sort) → slice_get (sorts names) name.0 ≡ Some sort → name.0 < count names
  name_known name sort e = let within = slice_get_within (sorts names) name.0 sort e in let all = length_sorts names in omega (arith, within, all)

  pub arg_known : (sort : Sort) (x : Arg) → ArgFits (sorts names) sort x → IsKnownArg names x
  arg_known Num (arg.Number q) h = tt
  arg_known Num (arg.Named name) h = name_known name Num h
  arg_known Num (arg.Index base offset) h = absurd h
  arg_known Num arg.Null h = absurd h
  arg_known Idx (arg.Number q) h = absurd h
  arg_known Idx (arg.Named name) h = absurd h
  arg_known Idx (arg.Index None offset) h = tt
  arg_known Idx (arg.Index (Some name) offset) h = name_known name Idx h
  arg_known Idx arg.Null h = absurd h
  arg_known Ptr (arg.Number q) h = absurd h
  arg_known Ptr (arg.Named name) h = name_known name Ptr h
  arg_known Ptr (arg.Index base offset) h = absurd h
  arg_known Ptr arg.Null h = tt

  -- its word stands at its place
  pub word_there : (name : literal.Name) (sort : Sort) → slice_get (sorts names) name.0 ≡ Some sort → slice_get (words names) name.0 ≡ Some (name_word names name)
  word_there name sort e = let known = name_known name sort e in let all = length_words names in get_there (words names) name.0 [] (omega (arith, known, all))

  -- ---- values
  module _ (v : Values) (env : Environment) (functions : Functions) (agrees : Agrees (words names) v env) where
    named_value : (name : literal.Name) (sort : Sort) → slice_get (sorts names) name.0 ≡ Some sort → value env functions (Name (name_word names name)) ≡ name_value v name.0
    named_value name sort e = terms.name_value env functions (name_word names name) ∙ agrees name.0 (name_word names name) (word_there name sort e)

    null_value : value env functions Null ≡ whole (pos 0)
    null_value = ap (value env functions) (sym rolls-Null) ∙ fold-roll-Term ℚ (value_step env functions) Term-F.Null

    add_value : (a b : Term) → value env functions (Add a b) ≡ (value env functions a +ℚ value env functions b)
    add_value a b = ap (value env functions) (sym (rolls-Add a b)) ∙ fold-roll-Term ℚ (value_step env functions) (Term-F.Add a b)

    pub arg_has_value : (sort : Sort) (x : Arg) → ArgFits (sorts names) sort x → value env functions (arg_term names x) ≡ arg_value v x
    arg_has_value Num (arg.Number q) h = terms.number_value env functions q
    arg_has_value Num (arg.Named name) h = named_value name Num h
    arg_has_value Num (arg.Index base offset) h = absurd h
    arg_has_value Num arg.Null h = absurd h
    arg_has_value Idx (arg.Number q) h = absurd h
    arg_has_value Idx (arg.Named name) h = absurd h
    arg_has_value Idx (arg.Index None offset) h =
        terms.number_value env functions (whole offset) ∙ sym (+ℚ_zero (whole offset)) ∙ +ℚ_comm (whole offset) (whole (pos 0))
    arg_has_value Idx (arg.Index (Some name) offset) h =
        add_value (Name (name_word names name)) (Number (whole offset))
        ∙ (λ i. named_value name Idx h i +ℚ terms.number_value env functions (whole offset) i)
    arg_has_value Idx arg.Null h = absurd h
    arg_has_value Ptr (arg.Number q) h = absurd h
    arg_has_value Ptr (arg.Named name) h = named_value name Ptr h
    arg_has_value Ptr (arg.Index base offset) h = absurd h
    arg_has_value Ptr arg.Null h = null_value

  -- ---- sorts
  abbrev scope : Scope
  scope = term_scope names

  number_num : (q : ℚ) → KeepsForms (sort_forms Num) (number_forms scope.pointer q)
  number_num q = record { sorts = by; whole = λ e. absurd (cc) }
    where
      by : (sort : Sort) → has_form (sort_forms Num) sort ≡ true → has_form (number_forms scope.pointer q) sort ≡ true
      by Num e = refl
      by Idx e = absurd (cc)
      by Ptr e = absurd (cc)

  number_idx : (q : ℚ) → is_whole q ≡ true → KeepsForms (sort_forms Idx) (number_forms scope.pointer q)
  number_idx q w = record { sorts = by; whole = λ e. absurd (cc) }
    where
      by : (sort : Sort) → has_form (sort_forms Idx) sort ≡ true → has_form (number_forms scope.pointer q) sort ≡ true
      by Num e = absurd (cc)
      by Idx e = w
      by Ptr e = absurd (cc)

  sum_idx : (q : ℚ) → is_whole q ≡ true → KeepsForms (sort_forms Idx) (sum_forms (sort_forms Idx) (number_forms scope.pointer q))
  sum_idx q w = record { sorts = by; whole = λ e. absurd (cc) }
    where
      by : (sort : Sort) → has_form (sort_forms Idx) sort ≡ true → has_form (sum_forms (sort_forms Idx) (number_forms scope.pointer q)) sort ≡ true
      by Num e = absurd (cc)
      by Idx e = ap (λ b. b || (false && is_whole q)) w
      by Ptr e = absurd (cc)

  null_forms : forms_of scope Null ≡ sort_forms Ptr
  null_forms = ap (forms_of scope) (sym rolls-Null) ∙ fold-roll-Term Forms (forms_step scope) Term-F.Null

  add_forms : (a b : Term) → forms_of scope (Add a b) ≡ sum_forms (forms_of scope a) (forms_of scope b)
  add_forms a b = ap (forms_of scope) (sym (rolls-Add a b)) ∙ fold-roll-Term Forms (forms_step scope) (Term-F.Add a b)

  module _ (made : IsMade names) where
    named_forms : (name : literal.Name) (sort : Sort) → slice_get (sorts names) name.0 ≡ Some sort → forms_of scope (Name (name_word names name)) ≡ sort_forms sort
    named_forms name sort e =
        let word = name_word names name in
        let at = position_of (words names) name.0 word (words_are_distinct names made) (word_there name sort e) in
        let known : (flat_scope names).name word ≡ Some sort = ap (option_and_then (λ k. slice_get (sorts names) k)) at ∙ e in
        name_is scope word ∙ ap name_forms known

    named_keeps : (name : literal.Name) (sort : Sort) → slice_get (sorts names) name.0 ≡ Some sort → KeepsForms (sort_forms sort) (forms_of scope (Name (name_word names name)))
    named_keeps name sort e = subst (KeepsForms (sort_forms sort)) (sym (named_forms name sort e)) (same_kept (sort_forms sort))

    pub arg_keeps : (sort : Sort) (x : Arg) → ArgFits (sorts names) sort x → KeepsForms (sort_forms sort) (forms_of scope (arg_term names x))
    arg_keeps Num (arg.Number q) h = subst (KeepsForms (sort_forms Num)) (sym (number_is scope q)) (number_num q)
    arg_keeps Num (arg.Named name) h = named_keeps name Num h
    arg_keeps Num (arg.Index base offset) h = absurd h
    arg_keeps Num arg.Null h = absurd h
    arg_keeps Idx (arg.Number q) h = absurd h
    arg_keeps Idx (arg.Named name) h = absurd h
    arg_keeps Idx (arg.Index None offset) h = subst (KeepsForms (sort_forms Idx)) (sym (number_is scope (whole offset))) (number_idx (whole offset) (whole-whole offset))
    arg_keeps Idx (arg.Index (Some name) offset) h =
        let is = add_forms (Name (name_word names name)) (Number (whole offset)) ∙ (λ i. sum_forms (named_forms name Idx h i) (number_is scope (whole offset) i)) in
        subst (KeepsForms (sort_forms Idx)) (sym is) (sum_idx (whole offset) (whole-whole offset))
    arg_keeps Idx arg.Null h = absurd h
    arg_keeps Ptr (arg.Number q) h = absurd h
    arg_keeps Ptr (arg.Named name) h = named_keeps name Ptr h
    arg_keeps Ptr (arg.Index base offset) h = absurd h
    arg_keeps Ptr arg.Null h = subst (KeepsForms (sort_forms Ptr)) (sym null_forms) (same_kept (sort_forms Ptr))
