-- A num term has the value of its form.
use Rattle.std.proofs.Common.{◌≡◌, true, pos, List, Ok, sym, ap, subst, ◌∙◌}
use Rattle.std.proofs.lemmas.Bool.{and_parts}
use Rattle.hp_math.specs.Rational.{ℚ, whole, ◌+ℚ◌, ◌-ℚ◌, ◌*ℚ◌, neg_ℚ}
use Rattle.hp_math.proofs.Field.{+ℚ_zero}
use Rattle.hp_num.specs.Wide.{◌>>=◌}
use Rattle.hp_num.proofs.Given.{came}
use Rattle.hp_tree.specs.declared.problem.Sort.{Sort}
use Rattle.hp_tree.specs.declared.problem.Sort.TheVariants.{Num}
use Rattle.hp_tree.specs.declared.term.Term.{Term, fold-roll-Term, ind-Term, roll-Term, map-Term}
use Rattle.hp_tree.specs.declared.term.Term.TheOpen.{Term-F}
use Rattle.hp_tree.specs.Value.{Word, Environment, Functions, value, value_step}
use Rattle.hp_terms.specs.declared.forms.Forms.{Forms}
use Rattle.hp_terms.specs.Scope.{Scope}
use Rattle.hp_terms.specs.Sorting.{forms_of, forms_step, has_form, name_forms}
use Rattle.hp_lit.specs.declared.literal.Name.{Name}
use Rattle.hp_lit.specs.declared.line.Lin.{Lin}
use Rattle.hp_lit.specs.Truth.{Values, name_value}
use Rattle.hp_lit.specs.Words.{Agrees, number, scope_over}
use Rattle.hp_lit.proofs.Words.{word_value}
use Rattle.hp_linear.specs.Steps.{Refusable}
use Rattle.hp_linear.specs.Lins.{lin_of, lin_step, minus_lin, named_lin, neg_lin, number_lin, plus_lin, times_lin, word_lin}
use Rattle.hp_linear.specs.Values.{lin_value}
use Rattle.hp_linear.specs.Laws.{TermsHaveLinValues}
use Rattle.hp_linear.proofs.Refusals.{ok_same}
use Rattle.hp_linear.proofs.Fields.{one_times, zero_plus}
use Rattle.hp_linear.proofs.Naming.{num_word}
use Rattle.hp_linear.proofs.Values.{minus_lin-value, neg_lin-value, plus_lin-value, times_lin-value}

-- ---- numbers and names
pub number_lin-value : (v : Values) (q : ℚ) → lin_value v (number_lin q) ≡ q
number_lin-value v q = zero_plus q

one_copy : (x : ℚ) → x ≡ (whole (pos 1) *ℚ x +ℚ whole (pos 0)) +ℚ whole (pos 0)
one_copy x = sym (one_times x) ∙ sym (+ℚ_zero (whole (pos 1) *ℚ x)) ∙ sym (+ℚ_zero (whole (pos 1) *ℚ x +ℚ whole (pos 0)))

pub named_lin-value : (v : Values) (name : Name) → lin_value v (named_lin name) ≡ name_value v name.0
named_lin-value v name = sym (one_copy (name_value v name.0))

module _ (words : List Word) (sorts : List Sort) (v : Values) (env : Environment) (functions : Functions) (agrees : Agrees words v env) where
  abbrev scope : Scope
  scope = scope_over words sorts

  -- a form that was found has this value
  abbrev HasValue : Refusable Lin → ℚ → Type 0
  HasValue r x = (f : Lin) → r ≡ Ok f → x ≡ lin_value v f

  number_value : (q : ℚ) → HasValue (Ok (number_lin q)) q
  number_value q f e = sym (number_lin-value v q) ∙ ap (lin_value v) (ok_same (number_lin q) f e)

  named_value : (n : Word) → has_form (name_forms (scope.name n)) Num ≡ true → HasValue (Ok (word_lin (number words n))) (env n)
  named_value n t f e =
      let is = num_word words sorts n t in
      word_value words v env n is.name agrees is.numbered ∙ sym (named_lin-value v is.name)
      ∙ ap (lin_value v) (ok_same (named_lin is.name) f (ap (λ o. Ok (word_lin o)) (sym is.numbered) ∙ e))

  plus_value : (r s : Refusable Lin) (x y : ℚ) → HasValue r x → HasValue s y → HasValue (r >>= λ f. s >>= λ g. plus_lin f g) (x +ℚ y)
  plus_value r s x y h g k e =
      let one = came r (λ f. s >>= λ g. plus_lin f g) k e in
      let two = came s (λ g. plus_lin one.value g) k one.rest in
      (λ i. h one.value one.first i +ℚ g two.value two.first i) ∙ sym (plus_lin-value v one.value two.value k two.rest)

  minus_value : (r s : Refusable Lin) (x y : ℚ) → HasValue r x → HasValue s y → HasValue (r >>= λ f. s >>= λ g. minus_lin f g) (x -ℚ y)
  minus_value r s x y h g k e =
      let one = came r (λ f. s >>= λ g. minus_lin f g) k e in
      let two = came s (λ g. minus_lin one.value g) k one.rest in
      (λ i. h one.value one.first i -ℚ g two.value two.first i) ∙ sym (minus_lin-value v one.value two.value k two.rest)

  neg_value : (r : Refusable Lin) (x : ℚ) → HasValue r x → HasValue (r >>= λ f. Ok (neg_lin f)) (neg_ℚ x)
  neg_value r x h k e =
      let one = came r (λ f. Ok (neg_lin f)) k e in
      ap neg_ℚ (h one.value one.first) ∙ sym (neg_lin-value v one.value) ∙ ap (lin_value v) (ok_same (neg_lin one.value) k one.rest)

  times_value : (q : ℚ) (r : Refusable Lin) (x : ℚ) → HasValue r x → HasValue (r >>= λ f. times_lin q f) (q *ℚ x)
  times_value q r x h k e =
      let one = came r (λ f. times_lin q f) k e in
      ap (λ y. q *ℚ y) (h one.value one.first) ∙ sym (times_lin-value v q one.value k one.rest)

  -- ---- terms
  abbrev is_num : Term → Type 0
  is_num t = has_form (forms_of scope t) Num ≡ true

  abbrev Fits : Term → Type 0
  Fits t = is_num t → HasValue (lin_of words t) (value env functions t)

  step_value : (y : Term-F ((t : Term) × Fits t))
      → has_form (forms_step scope (map-Term Term Forms (forms_of scope) (map-Term ((t : Term) × Fits t) Term (λ e. e.0) y))) Num ≡ true
      → HasValue (lin_step words (map-Term Term (Refusable Lin) (lin_of words) (map-Term ((t : Term) × Fits t) Term (λ e. e.0) y)))
      (value_step env functions (map-Term Term ℚ (value env functions) (map-Term ((t : Term) × Fits t) Term (λ e. e.0) y)))
  step_value (Term-F.Number q) = λ t. number_value q
  step_value Term-F.Null = λ t. absurd (cc)
  step_value (Term-F.Name n) = λ t. named_value n t
  step_value (Term-F.Apply func args) = λ t. absurd (cc)
  step_value (Term-F.Add a b) = λ t.
      let parts = and_parts (has_form (forms_of scope a.0) Num) (has_form (forms_of scope b.0) Num) t in
      plus_value (lin_of words a.0) (lin_of words b.0) (value env functions a.0) (value env functions b.0) (a.1 parts.0) (b.1 parts.1)
  step_value (Term-F.Sub a b) = λ t.
      let parts = and_parts (has_form (forms_of scope a.0) Num) (has_form (forms_of scope b.0) Num) t in
      minus_value (lin_of words a.0) (lin_of words b.0) (value env functions a.0) (value env functions b.0) (a.1 parts.0) (b.1 parts.1)
  step_value (Term-F.Neg a) = λ t. neg_value (lin_of words a.0) (value env functions a.0) (a.1 t)
  step_value (Term-F.Scale q a) = λ t. times_value q (lin_of words a.0) (value env functions a.0) (a.1 t)

  layer_value : (y : Term-F ((t : Term) × Fits t)) → Fits (roll-Term (map-Term ((t : Term) × Fits t) Term (λ e. e.0) y))
  layer_value y =
      let z = map-Term ((t : Term) × Fits t) Term (λ e. e.0) y in
      λ t. subst (HasValue (lin_of words (roll-Term z))) (sym (fold-roll-Term ℚ (value_step env functions) z))
      (subst (λ s. HasValue s (value_step env functions (map-Term Term ℚ (value env functions) z))) (sym (fold-roll-Term (Refusable Lin) (lin_step words) z))
      (step_value y (sym (ap (λ (g : Forms). has_form g Num) (fold-roll-Term Forms (forms_step scope) z)) ∙ t)))

  term_fits : (t : Term) → Fits t
  term_fits t = ind-Term Fits (λ x y is. subst (λ z. Fits (roll-Term z)) is (layer_value y)) t

pub terms_have_lin_values : TermsHaveLinValues
terms_have_lin_values words sorts v env functions t f agrees is e = term_fits words sorts v env functions agrees t is f e
