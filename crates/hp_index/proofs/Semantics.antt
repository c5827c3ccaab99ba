-- An index term has the value of its form, and a pointer term that of its name.
use Rattle.std.proofs.Common.{◌≡◌, true, ◌&&◌, ◌||◌, ℤ, pos, neg_ℤ, ◌+ℤ◌, ◌-ℤ◌, List, Option, None, refl, sym, ap, subst, ◌∙◌, ◌⊎◌, inl, inr, arith}
use Rattle.std.specs.Option.{option_or}
use Rattle.std.proofs.lemmas.Bool.{and_parts}
use Rattle.std.proofs.lemmas.Int.{ints}
use Rattle.hp_math.specs.Rational.{ℚ, whole, ◌+ℚ◌, ◌-ℚ◌, neg_ℚ}
use Rattle.hp_math.proofs.Field.{+ℚ_zero, +ℚ_comm, +ℚ_assoc}
use Rattle.hp_tree.specs.declared.term.Term.{Term, fold-roll-Term, roll-Term, map-Term}
use Rattle.hp_tree.specs.declared.term.Term.TheOpen.{Term-F}
use Rattle.hp_tree.specs.declared.problem.Sort.{Sort}
use Rattle.hp_tree.specs.declared.problem.Sort.TheVariants.{Idx, Ptr}
use Rattle.hp_tree.specs.Value.{Word, Environment, Functions, value, value_step}
use Rattle.hp_terms.specs.declared.forms.Forms.{Forms}
use Rattle.hp_terms.specs.Sorting.{forms_of, forms_step, has_form}
use Rattle.hp_lit.specs.declared.literal.Name.{Name}
use Rattle.hp_lit.specs.Truth.{Values, optional_value}
use Rattle.hp_lit.specs.Words.{Agrees, number, scope_over}
use Rattle.hp_lit.proofs.Words.{word_value}
use Rattle.hp_index.specs.declared.form.IndexForm.{IndexForm}
use Rattle.hp_index.specs.Forms.{above, index_of, index_step, minus_form, neg_form, plus_form}
use Rattle.hp_index.specs.Laws.{TermsHaveFormValues, TermsHavePointerValues}
use Rattle.hp_index.specs.Pointers.{pointer_of, pointer_step}
use Rattle.hp_index.specs.Values.{form_value}
use Rattle.hp_index.proofs.Layers.{Parts, bare, by_layers}
use Rattle.hp_index.proofs.Named.{IsNameOf, name_of_word, option_or-none, summands, term_base}
use Rattle.hp_index.proofs.Numbers.{neg-whole, whole-+, whole-of}

-- ---- the values of forms
zero_plus : (x : ℚ) → x ≡ whole (pos 0) +ℚ x
zero_plus x = sym (+ℚ_zero x) ∙ +ℚ_comm x (whole (pos 0))

less : (m n : ℤ) → m +ℤ neg_ℤ n ≡ m -ℤ n
less m n = omega (arith, ints)

module _ (v : Values) where
  -- a form without a name has the value of its number
  alone_value : (g : IndexForm) (y : ℚ) → g.base ≡ None → y ≡ form_value v g → y ≡ whole g.offset
  alone_value g y e h = h ∙ ap (λ o. optional_value v o +ℚ whole g.offset) e ∙ sym (zero_plus (whole g.offset))

  above_plus : (base : Option Name) (m n : ℤ) → form_value v (above base m) +ℚ whole n ≡ form_value v (above base (m +ℤ n))
  above_plus base m n = +ℚ_assoc (optional_value v base) (whole m) (whole n) ∙ ap (λ y. optional_value v base +ℚ y) (whole-+ m n)

  plus_right : (f g : IndexForm) (x y : ℚ) → x ≡ form_value v f → y ≡ form_value v g → g.base ≡ None → x +ℚ y ≡ form_value v (plus_form f g)
  plus_right f g x y p q e = (λ i. p i +ℚ alone_value g y e q i) ∙ above_plus f.base f.offset g.offset
      ∙ ap (λ o. form_value v (above o (f.offset +ℤ g.offset))) (sym (ap (option_or f.base) e ∙ option_or-none f.base))

  plus_left : (f g : IndexForm) (x y : ℚ) → x ≡ form_value v f → y ≡ form_value v g → f.base ≡ None → x +ℚ y ≡ form_value v (plus_form f g)
  plus_left f g x y p q e = (λ i. alone_value f x e p i +ℚ q i) ∙ +ℚ_comm (whole f.offset) (form_value v g) ∙ +ℚ_assoc (optional_value v g.base) (whole g.offset) (whole f.offset)
      ∙ ap (λ z. optional_value v g.base +ℚ z) (+ℚ_comm (whole g.offset) (whole f.offset) ∙ whole-+ f.offset g.offset)
      ∙ ap (λ o. form_value v (above o (f.offset +ℤ g.offset))) (sym (ap (λ o. option_or o g.base) e))

  minus_value : (f g : IndexForm) (x y : ℚ) → x ≡ form_value v f → y ≡ form_value v g → g.base ≡ None → x -ℚ y ≡ form_value v (minus_form f g)
  minus_value f g x y p q e = (λ i. p i -ℚ alone_value g y e q i) ∙ ap (λ z. form_value v f +ℚ z) (neg-whole g.offset) ∙ above_plus f.base f.offset (neg_ℤ g.offset)
      ∙ ap (λ n. form_value v (above f.base n)) (less f.offset g.offset)

  neg_value : (f : IndexForm) (x : ℚ) → x ≡ form_value v f → f.base ≡ None → neg_ℚ x ≡ form_value v (neg_form f)
  neg_value f x p e = ap neg_ℚ (alone_value f x e p) ∙ neg-whole f.offset ∙ zero_plus (whole (neg_ℤ f.offset))

module _ (words : List Word) (sorts : List Sort) (v : Values) (env : Environment) (f : Functions) (agrees : Agrees words v env) where
  named_value : (word : Word) (s : Sort) → IsNameOf words sorts word s → env word ≡ optional_value v (number words word)
  named_value word s n = word_value words v env word n.name agrees n.there ∙ ap (optional_value v) (sym n.there)

  -- ---- index terms
  abbrev HasFormValue : Term → Type 0
  HasFormValue t = has_form (forms_of (scope_over words sorts) t) Idx ≡ true → value env f t ≡ form_value v (index_of words t)

  sum_value : (a b : Term) → HasFormValue a → HasFormValue b
      → (((forms_of (scope_over words sorts) a).idx && (forms_of (scope_over words sorts) b).whole) || ((forms_of (scope_over words sorts) a).whole && (forms_of (scope_over words sorts) b).idx)) ≡ true
      → (value env f a +ℚ value env f b) ≡ form_value v (plus_form (index_of words a) (index_of words b))
  sum_value a b p q e = by (summands (forms_of (scope_over words sorts) a) (forms_of (scope_over words sorts) b) e)
    where
      by : (((forms_of (scope_over words sorts) a).idx ≡ true) × ((forms_of (scope_over words sorts) b).whole ≡ true)) ⊎ (((forms_of (scope_over words sorts) a).whole ≡ true) × ((forms_of (scope_over words sorts) b).idx ≡ true))
          → (value env f a +ℚ value env f b) ≡ form_value v (plus_form (index_of words a) (index_of words b))
      by (inl h) = plus_right v (index_of words a) (index_of words b) (value env f a) (value env f b)
          (p h.0) (q ((term_base words sorts b).number h.1)) ((term_base words sorts b).alone h.1)
      by (inr h) = plus_left v (index_of words a) (index_of words b) (value env f a) (value env f b)
          (p ((term_base words sorts a).number h.0)) (q h.1) ((term_base words sorts a).alone h.0)

  step_value : (y : Term-F (Parts HasFormValue))
      → has_form (forms_step (scope_over words sorts) (map-Term Term Forms (forms_of (scope_over words sorts)) (bare HasFormValue y))) Idx ≡ true
      → value_step env f (map-Term Term ℚ (value env f) (bare HasFormValue y)) ≡ form_value v (index_step words (map-Term Term IndexForm (index_of words) (bare HasFormValue y)))
  step_value (Term-F.Number q) e = whole-of q e ∙ zero_plus (whole q.num)
  step_value Term-F.Null e = absurd (cc)
  step_value (Term-F.Name n) e = named_value n Idx (name_of_word words sorts n Idx e) ∙ sym (+ℚ_zero (optional_value v (number words n)))
  step_value (Term-F.Apply func args) e = absurd (cc)
  step_value (Term-F.Add a b) e = sum_value a.0 b.0 a.1 b.1 e
  step_value (Term-F.Sub a b) e =
      let h = and_parts (forms_of (scope_over words sorts) a.0).idx (forms_of (scope_over words sorts) b.0).whole e in
      let g = term_base words sorts b.0 in
      minus_value v (index_of words a.0) (index_of words b.0) (value env f a.0) (value env f b.0) (a.1 h.0) (b.1 (g.number h.1)) (g.alone h.1)
  step_value (Term-F.Neg a) e = let g = term_base words sorts a.0 in neg_value v (index_of words a.0) (value env f a.0) (a.1 (g.number e)) (g.alone e)
  step_value (Term-F.Scale q a) e = absurd (cc)

  layer_value : (y : Term-F (Parts HasFormValue)) → HasFormValue (roll-Term (bare HasFormValue y))
  layer_value y =
      let z = bare HasFormValue y in
      let scope = scope_over words sorts in
      subst (λ g. has_form g Idx ≡ true → value env f (roll-Term z) ≡ form_value v (index_of words (roll-Term z))) (sym (fold-roll-Term Forms (forms_step scope) z))
      (subst (λ x. has_form (forms_step scope (map-Term Term Forms (forms_of scope) z)) Idx ≡ true → x ≡ form_value v (index_of words (roll-Term z))) (sym (fold-roll-Term ℚ (value_step env f) z))
      (subst (λ (g : IndexForm). has_form (forms_step scope (map-Term Term Forms (forms_of scope) z)) Idx ≡ true → value_step env f (map-Term Term ℚ (value env f) z) ≡ form_value v g)
      (sym (fold-roll-Term IndexForm (index_step words) z)) (step_value y)))

  pub term_value : (t : Term) → HasFormValue t
  term_value = by_layers HasFormValue layer_value

  -- ---- pointer terms
  abbrev HasPointerValue : Term → Type 0
  HasPointerValue t = has_form (forms_of (scope_over words sorts) t) Ptr ≡ true → value env f t ≡ optional_value v (pointer_of words t)

  step_pointer : (y : Term-F (Parts HasPointerValue))
      → has_form (forms_step (scope_over words sorts) (map-Term Term Forms (forms_of (scope_over words sorts)) (bare HasPointerValue y))) Ptr ≡ true
      → value_step env f (map-Term Term ℚ (value env f) (bare HasPointerValue y)) ≡ optional_value v (pointer_step words (map-Term Term (Option Name) (pointer_of words) (bare HasPointerValue y)))
  step_pointer (Term-F.Number q) e = absurd (cc)
  step_pointer Term-F.Null e = refl
  step_pointer (Term-F.Name n) e = named_value n Ptr (name_of_word words sorts n Ptr e)
  step_pointer (Term-F.Apply func args) e = absurd (cc)
  step_pointer (Term-F.Add a b) e = absurd (cc)
  step_pointer (Term-F.Sub a b) e = absurd (cc)
  step_pointer (Term-F.Neg a) e = absurd (cc)
  step_pointer (Term-F.Scale q a) e = absurd (cc)

  layer_pointer : (y : Term-F (Parts HasPointerValue)) → HasPointerValue (roll-Term (bare HasPointerValue y))
  layer_pointer y =
      let z = bare HasPointerValue y in
      let scope = scope_over words sorts in
      subst (λ g. has_form g Ptr ≡ true → value env f (roll-Term z) ≡ optional_value v (pointer_of words (roll-Term z))) (sym (fold-roll-Term Forms (forms_step scope) z))
      (subst (λ x. has_form (forms_step scope (map-Term Term Forms (forms_of scope) z)) Ptr ≡ true → x ≡ optional_value v (pointer_of words (roll-Term z))) (sym (fold-roll-Term ℚ (value_step env f) z))
      (subst (λ o. has_form (forms_step scope (map-Term Term Forms (forms_of scope) z)) Ptr ≡ true → value_step env f (map-Term Term ℚ (value env f) z) ≡ optional_value v o)
      (sym (fold-roll-Term (Option Name) (pointer_step words) z)) (step_pointer y)))

  pub pointer_value : (t : Term) → HasPointerValue t
  pointer_value = by_layers HasPointerValue layer_pointer

pub terms_have_form_values : TermsHaveFormValues
terms_have_form_values words sorts v env f t agrees e = term_value words sorts v env f agrees t e

pub terms_have_pointer_values : TermsHavePointerValues
terms_have_pointer_values words sorts v env f t agrees e = pointer_value words sorts v env f agrees t e
