-- A clause of cases says of its values that the guard of its case in the table bounds the function.
use Rattle.std.proofs.Common.{◌≡◌, ◌∙◌, ◌⊎◌, inl, inr, ℕ, zero, suc, ◌<◌, ◌≤◌, List, [], ◌∷◌, ◌++◌, map, length, take, Bool, true, false, ◌||◌, not, cond, nat_lt, Option, Some, None, refl, sym, ap, subst, arith, pos}
use Rattle.std.specs.Prelude.{if◌then◌else◌, codes, position}
use Rattle.std.specs.Str.{bytes_eq}
use Rattle.std.specs.List.{All, position_or_len}
use Rattle.std.proofs.lemmas.Bool.{ltb-false, ltb-true, or_parts}
use Rattle.std.proofs.lemmas.List.Elements.{All-contains}
use Rattle.std.proofs.lemmas.List.Folds.{list_any-append, list_any_none}
use Rattle.std.proofs.lemmas.List.Sums.{fails_before_first}
use Rattle.hp_math.specs.Rational.{ℚ, whole, eq_ℚ, le_ℚ}
use Rattle.hp_tree.specs.Limits.{most_arguments}
use Rattle.hp_tree.specs.declared.term.Term.{Term, Apply, Name, Number}
use Rattle.hp_tree.specs.declared.term.Term.TheOpen.{Term-F}
use Rattle.hp_tree.specs.declared.term.Term.TheVariants.{rolls-Number}
use Rattle.hp_tree.specs.declared.problem.Atom.{Atom}
use Rattle.hp_tree.specs.declared.problem.Cmp.{Cmp}
use Rattle.hp_tree.specs.declared.problem.Cmp.TheVariants.{Le, Lt, Eq, Ne, Ge, Gt}
use Rattle.hp_tree.specs.declared.problem.Var.{Var}
use Rattle.hp_tree.specs.Universal.{assign, clause_at}
use Rattle.hp_tree.specs.Value.{Word, Environment, Functions, all_true, atom_is_true, compares, one_true, value}
use Rattle.hp_tree.proofs.Compares.{eq_ℚ-from, eq_ℚ-true}
use Rattle.hp_terms.specs.Scope.{Scope}
use Rattle.hp_terms.specs.Words.{numbered}
use Rattle.hp_names.specs.Names.{is_among}
use Rattle.hp_names.proofs.Distinct.{absent}
use Rattle.hp_names.proofs.Texts.{apart_back, not_both, same_text, text_same}
use Rattle.hp_lit.specs.Truth.{Values, name_value}
use Rattle.hp_defs.specs.Made.{IsMade}
use Rattle.hp_defs.specs.Names.{NameList, constant_name, constant_words, words}
use Rattle.hp_defs.proofs.Distinct.{words_are_distinct}
use Rattle.hp_base.proofs.ArgsDefined.{get_map}
use Rattle.hp_model.specs.Value.{with_arguments}
use Rattle.hp_local.specs.Applied.{applies_only}
use Rattle.hp_local.specs.Cases.{IsBoundOf, IsOfCase, bound_applies, bound_is_true, bound_term as local_term, Bound as local_bound, Low as local_low, High as local_high, Same as local_same}
use Rattle.hp_local.specs.Rows.{argument_words, number_term}
use Rattle.hp_local.specs.Substitution.{HaveNamesValues, substitute, substitute_atom}
use Rattle.hp_local.proofs.Folds.{substitutes_keep_guards, substitutes_keep_values}
use Rattle.hp_local.proofs.Lists.{contains_map}
use Rattle.hp_local.proofs.Rows.{Reads}
use Rattle.hp_local.proofs.Terms.{apply_value, name_value as word_value, numbers_are_terms}
use Rattle.hp_norm.specs.declared.flat.FlatClause.{FlatClause}
use Rattle.hp_norm.specs.Flat.{universal_of}
use Rattle.hp_norm.specs.Scopes.{clause_scope}
use Rattle.hp_class.specs.Frame.{environment, frame_at, is_function}
use Rattle.hp_class.proofs.Through.{words_agree}
use Rattle.hp_flatten.specs.Applications.{applications}
use Rattle.hp_flatten.proofs.HoldsTerms.{applications_at}
use Rattle.hp_flatten.specs.Flattening.{argument_names, argument_var, argument_vars}
use Rattle.hp_flatten.specs.Laws.{HasPlainConstants}
use Rattle.hp_cases.specs.declared.case.Bound.{Bound}
use Rattle.hp_cases.specs.declared.case.Bound.TheVariants.{Low, High, Same}
use Rattle.hp_cases.specs.declared.case.Case.{Case}
use Rattle.hp_cases.specs.Bounds.{bound_left, bound_right}
use Rattle.hp_cases.specs.Cases.{HasBound, IsCaseClause, IsNumBound, IsNumCase, bound_term, table_bound, table_case, valued, word_term}
use Rattle.hp_cases.proofs.Applied.{Passes, bare_applies}
use Rattle.hp_cases.proofs.CaseRows.{guard_applies, term_applies}
use Rattle.hp_cases.proofs.Heads.{IsHead, IsOnLeft, IsOnRight, head_of}
use Rattle.hp_cases.proofs.Words.{argument_stays, constant_at, no_name, place_is}

abbrev zero_ℚ : ℚ
zero_ℚ = whole (pos 0)

-- ---- environments
-- a word without a place is not among the words
not_among : (word : Word) (ws : List Word) → position (bytes_eq word) ws ≡ None → is_among word ws ≡ false
not_among word ws e = by (nat_lt (position_or_len (bytes_eq word) ws) (length ws)) refl e
  where
    by : (b : Bool) → nat_lt (position_or_len (bytes_eq word) ws) (length ws) ≡ b → cond b (Some (position_or_len (bytes_eq word) ws)) None ≡ None → is_among word ws ≡ false
    by true is h = absurd (cc)
    by false is h =
        let all : length ws ≤ position_or_len (bytes_eq word) ws = ltb-false (position_or_len (bytes_eq word) ws) (length ws) is in
        list_any_none (bytes_eq word) ws (λ k d l. fails_before_first (bytes_eq word) ws k d (omega (arith, all, l)))

-- it has the value 0
pub unknown_is_zero : (ws : List Word) (v : Values) (word : Word) → is_among word ws ≡ false → environment ws v word ≡ zero_ℚ
unknown_is_zero [] v word e = refl
unknown_is_zero (w ∷ ws) [] word e = refl
unknown_is_zero (w ∷ ws) (x ∷ xs) word e =
    let parts = or_parts (bytes_eq word w) (is_among word ws) e in
    ap (λ b. cond b x (environment ws xs word)) (apart_back word w parts.0) ∙ unknown_is_zero ws xs word parts.1

-- a word in front has the value that it has alone
pub front_value : (ws more : List Word) (v : Values) (word : Word) → is_among word ws ≡ true → environment (ws ++ more) v word ≡ environment ws v word
front_value [] more v word e = absurd (cc)
front_value (w ∷ ws) more [] word e = refl
front_value (w ∷ ws) more (x ∷ xs) word e = by (front_value ws more xs word) (bytes_eq w word) refl
  where
    later : (b : Bool) → bytes_eq word w ≡ b → b ≡ false → (b || is_among word ws) ≡ true → is_among word ws ≡ true
    later true is not_so h = absurd (cc)
    later false is not_so h = h

    by : (is_among word ws ≡ true → environment (ws ++ more) xs word ≡ environment ws xs word) → (b : Bool) → bytes_eq w word ≡ b
        → cond b x (environment (ws ++ more) xs word) ≡ cond b x (environment ws xs word)
    by rest true is = refl
    by rest false is = rest (later (bytes_eq word w) refl (apart_back w word is) e)

module _ (names : NameList) (v : Values) where
  abbrev env : Environment
  env = environment (words names) v

  abbrev consts : Environment
  consts = environment (constant_words names) v

  -- all names give a word the value that the constants give it, where it is no definition
  constant_value : (word : Word) → is_among word (constant_words names) ≡ true → env word ≡ consts word
  constant_value word e = front_value (constant_words names) (numbered 1 (length names.definitions)) v word e

  no_value : (word : Word) → is_among word (words names) ≡ false → env word ≡ consts word
  no_value word e =
      let parts = or_parts (is_among word (constant_words names)) (is_among word (numbered 1 (length names.definitions)))
      (sym (list_any-append (bytes_eq word) (constant_words names) (numbered 1 (length names.definitions))) ∙ e) in
      unknown_is_zero (words names) v word e ∙ sym (unknown_is_zero (constant_words names) v word parts.0)

  among_constants : (word : Word) (n : ℕ) → position (bytes_eq word) (words names) ≡ Some n → n < length names.constants → is_among word (constant_words names) ≡ true
  among_constants word n e l = by (is_among word (constant_words names)) refl
    where
      by : (b : Bool) → is_among word (constant_words names) ≡ b → b ≡ true
      by true is = refl
      by false is =
          let c = constant_at names word n e l in
          absurd (not_both (bytes_eq word c.constant.name) (absent word (constant_words names) n c.constant.name is (get_map constant_name names.constants n c.constant c.there))
          (subst (λ (w : Word). bytes_eq word w ≡ true) (sym c.name) (text_same word)))

  -- a term in place of a word has its value, where the constants have theirs
  module _ (made : IsMade names) (now : Environment) (functions : Functions) (word : Word) (kept : now word ≡ consts word) where
    stands_for : (o : Option ℕ) → position (bytes_eq word) (words names) ≡ o → value now functions (valued names v word o) ≡ env word
    stands_for None e = word_value now functions word ∙ kept ∙ sym (no_value word (not_among word (words names) e))
    stands_for (Some n) e = by (nat_lt n (length names.constants)) refl
      where
        by : (b : Bool) → nat_lt n (length names.constants) ≡ b → value now functions (if b then Name word else number_term (name_value v n)) ≡ env word
        by true is = word_value now functions word ∙ kept ∙ sym (constant_value word (among_constants word n e (ltb-true n (length names.constants) is)))
        by false is =
            let p = place_is word (words names) n e in
            numbers_are_terms now functions (name_value v n)
            ∙ sym (ap env (same_text word p.item p.passes) ∙ words_agree (words names) v (words_are_distinct names made) n p.item p.there)

-- ---- words of arguments
-- the variables have the values of the arguments
reads_variables : (xs : List ℚ) (env : Environment) → length xs ≤ 4 → Reads (assign (argument_vars (length xs)) xs env) argument_words xs
reads_variables [] env h = tt
reads_variables (a ∷ []) env h = (refl, tt)
reads_variables (a ∷ b ∷ []) env h = (refl, (refl, tt))
reads_variables (a ∷ b ∷ c ∷ []) env h = (refl, (refl, (refl, tt)))
reads_variables (a ∷ b ∷ c ∷ d ∷ []) env h = (refl, (refl, (refl, (refl, tt))))
reads_variables (a ∷ b ∷ c ∷ d ∷ e ∷ xs) env h = absurd (omega arith)

named_values : (names : Environment) (functions : Functions) (ws : List Word) (xs : List ℚ) → Reads names ws xs → map (value names functions) (map Name (take (length xs) ws)) ≡ xs
named_values names functions ws [] h = refl
named_values names functions [] (x ∷ xs) h = absurd h
named_values names functions (w ∷ ws) (x ∷ xs) h = λ i. (word_value names functions w ∙ h.0) i ∷ named_values names functions ws xs h.1 i

module _ (env consts : Environment) (none : (word : Word) → is_among word argument_words ≡ true → env word ≡ zero_ℚ) where
  abbrev AreSameAt : List ℚ → Word → Type 0
  AreSameAt xs word = with_arguments xs consts word ≡ assign (argument_vars (length xs)) xs env word

  first_same : (xs : List ℚ) → length xs ≤ 4 → AreSameAt xs (codes "$1")
  first_same [] h = sym (none (codes "$1") refl)
  first_same (a ∷ []) h = refl
  first_same (a ∷ b ∷ []) h = refl
  first_same (a ∷ b ∷ c ∷ []) h = refl
  first_same (a ∷ b ∷ c ∷ d ∷ []) h = refl
  first_same (a ∷ b ∷ c ∷ d ∷ e ∷ xs) h = absurd (omega arith)

  second_same : (xs : List ℚ) → length xs ≤ 4 → AreSameAt xs (codes "$2")
  second_same [] h = sym (none (codes "$2") refl)
  second_same (a ∷ []) h = sym (none (codes "$2") refl)
  second_same (a ∷ b ∷ []) h = refl
  second_same (a ∷ b ∷ c ∷ []) h = refl
  second_same (a ∷ b ∷ c ∷ d ∷ []) h = refl
  second_same (a ∷ b ∷ c ∷ d ∷ e ∷ xs) h = absurd (omega arith)

  third_same : (xs : List ℚ) → length xs ≤ 4 → AreSameAt xs (codes "$3")
  third_same [] h = sym (none (codes "$3") refl)
  third_same (a ∷ []) h = sym (none (codes "$3") refl)
  third_same (a ∷ b ∷ []) h = sym (none (codes "$3") refl)
  third_same (a ∷ b ∷ c ∷ []) h = refl
  third_same (a ∷ b ∷ c ∷ d ∷ []) h = refl
  third_same (a ∷ b ∷ c ∷ d ∷ e ∷ xs) h = absurd (omega arith)

  fourth_same : (xs : List ℚ) → length xs ≤ 4 → AreSameAt xs (codes "$4")
  fourth_same [] h = sym (none (codes "$4") refl)
  fourth_same (a ∷ []) h = sym (none (codes "$4") refl)
  fourth_same (a ∷ b ∷ []) h = sym (none (codes "$4") refl)
  fourth_same (a ∷ b ∷ c ∷ []) h = sym (none (codes "$4") refl)
  fourth_same (a ∷ b ∷ c ∷ d ∷ []) h = refl
  fourth_same (a ∷ b ∷ c ∷ d ∷ e ∷ xs) h = absurd (omega arith)

  -- and past them the value 0, as in a table
  argument_same : (xs : List ℚ) → length xs ≤ 4 → (word : Word) → is_among word argument_words ≡ true → AreSameAt xs word
  argument_same xs few word e = by (bytes_eq word (codes "$1")) (bytes_eq word (codes "$2")) (bytes_eq word (codes "$3")) (bytes_eq word (codes "$4")) refl refl refl refl e
    where
      at : (other : Word) → bytes_eq word other ≡ true → AreSameAt xs other → AreSameAt xs word
      at other is h = subst (λ (w : Word). AreSameAt xs w) (sym (same_text word other is)) h

      by : (a b c d : Bool) → bytes_eq word (codes "$1") ≡ a → bytes_eq word (codes "$2") ≡ b → bytes_eq word (codes "$3") ≡ c → bytes_eq word (codes "$4") ≡ d → (a || (b || (c || (d || false)))) ≡ true
          → AreSameAt xs word
      by true b c d p q r s h = at (codes "$1") p (first_same xs few)
      by false true c d p q r s h = at (codes "$2") q (second_same xs few)
      by false false true d p q r s h = at (codes "$3") r (third_same xs few)
      by false false false true p q r s h = at (codes "$4") s (fourth_same xs few)
      by false false false false p q r s h = absurd (cc)

-- every other word keeps its value
table_keeps : (xs : List ℚ) (consts : Environment) (word : Word) → is_among word argument_words ≡ false → with_arguments xs consts word ≡ consts word
table_keeps xs consts word e = by (bytes_eq word (codes "$1")) (bytes_eq word (codes "$2")) (bytes_eq word (codes "$3")) (bytes_eq word (codes "$4")) refl refl refl refl e
  where
    by : (a b c d : Bool) → bytes_eq word (codes "$1") ≡ a → bytes_eq word (codes "$2") ≡ b → bytes_eq word (codes "$3") ≡ c → bytes_eq word (codes "$4") ≡ d → (a || (b || (c || (d || false)))) ≡ false
        → with_arguments xs consts word ≡ consts word
    by true b c d p q r s h = absurd (cc)
    by false true c d p q r s h = absurd (cc)
    by false false true d p q r s h = absurd (cc)
    by false false false true p q r s h = absurd (cc)
    by false false false false p q r s h = rw p (rw q (rw r (rw s refl)))

variables_keep : (ws : List Word) (count : ℕ) (xs : List ℚ) (kept : Environment) (word : Word) → is_among word ws ≡ false → assign (map argument_var (take count ws)) xs kept word ≡ kept word
variables_keep ws zero xs kept word e = refl
variables_keep [] (suc count) xs kept word e = refl
variables_keep (w ∷ ws) (suc count) [] kept word e = refl
variables_keep (w ∷ ws) (suc count) (x ∷ xs) kept word e =
    let parts = or_parts (bytes_eq word w) (is_among word ws) e in
    ap (λ b. if b then x else assign (map argument_var (take count ws)) xs kept word) (apart_back word w parts.0) ∙ variables_keep ws count xs kept word parts.1

-- ---- each word has the value of what stands for it in the table
module _ (names : NameList) (v : Values) (made : IsMade names) (plain : HasPlainConstants names) (functions : Functions) (xs : List ℚ) (few : length xs ≤ 4) where
  abbrev here : Environment
  here = environment (words names) v

  abbrev fixed : Environment
  fixed = environment (constant_words names) v

  abbrev variables : Environment
  variables = assign (argument_vars (length xs)) xs here

  abbrev table : Environment
  table = with_arguments xs fixed

  argument_is_zero : (word : Word) → is_among word argument_words ≡ true → here word ≡ zero_ℚ
  argument_is_zero word e = unknown_is_zero (words names) v word (not_among word (words names) (no_name names plain word e))

  have_values : HaveNamesValues table functions (word_term names v) variables
  have_values word = by (is_among word argument_words) refl
    where
      by : (b : Bool) → is_among word argument_words ≡ b → value table functions (word_term names v word) ≡ variables word
      by true is =
          ap (value table functions) (argument_stays names plain v word is) ∙ word_value table functions word ∙ argument_same here fixed argument_is_zero xs few word is
      by false is =
          stands_for names v made table functions word (table_keeps xs fixed word is) (position (bytes_eq word) (words names)) refl
          ∙ sym (variables_keep argument_words (length xs) xs here word is)

-- ---- bounds
-- a bound of the table
abbrev plain_bound : Bound → local_bound
plain_bound (Low t) = local_low t
plain_bound (High t) = local_high t
plain_bound (Same t) = local_same t

abbrev shown_bound : (Word → Term) → Bound → local_bound
shown_bound r (Low t) = local_low (substitute r t)
shown_bound r (High t) = local_high (substitute r t)
shown_bound r (Same t) = local_same (substitute r t)

shown_of : (names : NameList) (v : Values) (case : Case) (bound : Bound) → HasBound case bound → IsBoundOf (table_bound names v case.low) (table_bound names v case.high) (shown_bound (word_term names v) bound)
shown_of names v case (Low t) h = ap (table_bound names v) h
shown_of names v case (High t) h = ap (table_bound names v) h
shown_of names v case (Same t) h = (ap (table_bound names v) h.0, ap (table_bound names v) h.1)

shown_applies : (test : Word → Bool) (names : NameList) (v : Values) (bound : Bound) → All (Passes test) (applications (bound_term bound)) → bound_applies test (shown_bound (word_term names v) bound) ≡ true
shown_applies test names v (Low t) e = term_applies test names v t e
shown_applies test names v (High t) e = term_applies test names v t e
shown_applies test names v (Same t) e = term_applies test names v t e

shown_term_applies : (names : NameList) (v : Values) (applied : List ℕ) (scope : Scope) (low high : Option Term) → IsNumBound names applied scope low → IsNumBound names applied scope high
    → applies_only (is_function names applied) (local_term (table_bound names v low) (table_bound names v high)) ≡ true
shown_term_applies names v applied scope (Some s) high h k = term_applies (is_function names applied) names v s h.lower
shown_term_applies names v applied scope None (Some t) h k = term_applies (is_function names applied) names v t k.lower
shown_term_applies names v applied scope None None h k = bare_applies (is_function names applied) (Number zero_ℚ) (ap applications (sym (rolls-Number zero_ℚ)) ∙ applications_at (Term-F.Number zero_ℚ))

shown_is_true : (now names : Environment) (functions : Functions) (r : Word → Term) → HaveNamesValues now functions r names → (bound : Bound) (y : ℚ)
    → bound_is_true names functions (plain_bound bound) y ≡ bound_is_true now functions (shown_bound r bound) y
shown_is_true now names functions r h (Low t) y = ap (λ z. le_ℚ z y) (sym (substitutes_keep_values now names functions r h t))
shown_is_true now names functions r h (High t) y = ap (λ z. le_ℚ y z) (sym (substitutes_keep_values now names functions r h t))
shown_is_true now names functions r h (Same t) y = ap (λ z. eq_ℚ y z) (sym (substitutes_keep_values now names functions r h t))

-- ---- heads
equal_turns : (a b : ℚ) → eq_ℚ a b ≡ eq_ℚ b a
equal_turns a b = by (eq_ℚ a b) (eq_ℚ b a) refl refl
  where
    by : (p q : Bool) → eq_ℚ a b ≡ p → eq_ℚ b a ≡ q → p ≡ q
    by true true e f = refl
    by false false e f = refl
    by true false e f = absurd (not_both (eq_ℚ b a) f (eq_ℚ-from b a (sym (eq_ℚ-true a b e))))
    by false true e f = absurd (not_both (eq_ℚ a b) e (eq_ℚ-from a b (sym (eq_ℚ-true b a f))))

module _ (names : Environment) (functions : Functions) (y : ℚ) where
  abbrev Truth : Bound → Bool
  Truth bound = bound_is_true names functions (plain_bound bound) y

  some_truth : (b c : Bound) → Some b ≡ Some c → Truth b ≡ Truth c
  some_truth b c e = ap (λ (o : Option Bound). elim o [ None ↦ false | Some z ↦ Truth z ]) e

  right_says : (cmp : Cmp) (t : Term) (bound : Bound) → bound_right cmp t ≡ Some bound → compares cmp y (value names functions t) ≡ Truth bound
  right_says Le t bound e = some_truth (High t) bound e
  right_says Ge t bound e = some_truth (Low t) bound e
  right_says Eq t bound e = some_truth (Same t) bound e
  right_says Lt t bound e = absurd (cc)
  right_says Gt t bound e = absurd (cc)
  right_says Ne t bound e = absurd (cc)

  left_says : (cmp : Cmp) (t : Term) (bound : Bound) → bound_left cmp t ≡ Some bound → compares cmp (value names functions t) y ≡ Truth bound
  left_says Le t bound e = some_truth (Low t) bound e
  left_says Ge t bound e = some_truth (High t) bound e
  left_says Eq t bound e = equal_turns (value names functions t) y ∙ some_truth (Same t) bound e
  left_says Lt t bound e = absurd (cc)
  left_says Gt t bound e = absurd (cc)
  left_says Ne t bound e = absurd (cc)

  module _ (func : Word) (count : ℕ) (is : value names functions (Apply func (argument_names count)) ≡ y) where
    side_says : (atom : Atom) (bound : Bound) → IsOnLeft func count atom bound ⊎ IsOnRight func count atom bound → atom_is_true names functions atom ≡ Truth bound
    side_says atom bound (inl h) =
        ap (λ z. compares atom.cmp z (value names functions atom.right)) (ap (value names functions) h.left ∙ is) ∙ right_says atom.cmp atom.right bound h.bound_is
    side_says atom bound (inr h) =
        ap (λ z. compares atom.cmp (value names functions atom.left) z) (ap (value names functions) h.right ∙ is) ∙ left_says atom.cmp atom.left bound h.bound_is

    or_false : (b : Bool) → (b || false) ≡ b
    or_false true = refl
    or_false false = refl

    head_says : (head : List Atom) (bound : Bound) → IsHead func count head bound → one_true names functions head ≡ Truth bound
    head_says head bound h =
        ap (one_true names functions) h.head_is ∙ or_false (atom_is_true names functions h.atom) ∙ side_says h.atom bound h.side

-- ---- clauses
counted : (ws : List Word) (count : ℕ) → count ≤ length ws → length (map argument_var (take count ws)) ≡ count
counted ws zero l = refl
counted [] (suc count) l = absurd (omega (arith, l))
counted (w ∷ ws) (suc count) l = ap suc (counted ws count (omega (arith, l)))

module _ (names : NameList) (v : Values) (word : Word) (count : ℕ) (cases : List Case) (applied : List ℕ) (c : FlatClause) (h : IsCaseClause names word count cases applied c) (made : IsMade names)
    (plain : HasPlainConstants names) where
  abbrev all : Environment
  all = environment (words names) v

  abbrev alone : Environment
  alone = environment (constant_words names) v

  abbrev r : Word → Term
  r = word_term names v

  clause_says : (functions : Functions) (xs : List ℚ) → length xs ≡ count → length xs ≤ 4
      → clause_at all functions (universal_of c) xs
      ≡ (not (all_true (with_arguments xs alone) functions (map (substitute_atom r) h.case.guard)) || bound_is_true (with_arguments xs alone) functions (shown_bound r h.bound) (functions word xs))
  clause_says functions xs e few =
      let now = with_arguments xs alone in
      let given = assign (argument_vars (length xs)) xs all in
      let have : HaveNamesValues now functions r given = have_values names v made plain functions xs few in
      let value_is : value given functions (Apply word (argument_names count)) ≡ functions word xs =
      ap (λ n. value given functions (Apply word (argument_names n))) (sym e) ∙ apply_value given functions word (argument_names (length xs))
      ∙ ap (functions word) (named_values given functions argument_words xs (reads_variables xs all few)) in
      let guard : all_true given functions c.guard ≡ all_true now functions (map (substitute_atom r) h.case.guard) =
      h.guard given functions ∙ sym (substitutes_keep_guards now given functions r have h.case.guard) in
      let head : one_true given functions c.head ≡ bound_is_true now functions (shown_bound r h.bound) (functions word xs) =
      head_says given functions (functions word xs) word count value_is c.head h.bound (head_of word count c.head h.bound h.head h.value)
      ∙ shown_is_true now given functions r have h.bound (functions word xs) in
      ap (λ (vars : List Var). not (all_true (assign vars xs all) functions c.guard) || one_true (assign vars xs all) functions c.head) (h.vars ∙ ap argument_vars (sym e))
      ∙ (λ i. not (guard i) || head i)

pub case_says : (size : ℕ) (names : NameList) (v : Values) (word : Word) (count : ℕ) (cases : List Case) (applied : List ℕ) (c : FlatClause) → IsCaseClause names word count cases applied c
    → IsMade names → HasPlainConstants names → All (IsNumCase names count applied) cases → count ≤ most_arguments
    → IsOfCase (frame_at size names v) word count (is_function names applied) (map (table_case names v) cases) (universal_of c)
case_says size names v word count cases applied c h made plain nums few =
    let num = All-contains (IsNumCase names count applied) cases h.case nums h.among in
    let test = is_function names applied in
    record {
      case = table_case names v h.case;
      among = contains_map (table_case names v) cases h.case h.among;
      bound = shown_bound (word_term names v) h.bound;
      of_case = shown_of names v h.case h.bound h.has;
      arguments = ap (λ (vars : List Var). length vars) h.vars ∙ counted argument_words count few;
      guard_applies = guard_applies test names v (clause_scope names (argument_vars count)) h.case.guard num.guard;
      term_applies = shown_term_applies names v applied (clause_scope names (argument_vars count)) h.case.low h.case.high num.low num.high;
      bound_applies_lower = shown_applies test names v h.bound h.lower;
      says = λ functions xs is. clause_says names v word count cases applied c h made plain functions xs is (omega (arith, is, few));
    }
