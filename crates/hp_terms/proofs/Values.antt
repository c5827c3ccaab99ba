-- Terms of a sort have values of that sort: by one layer of a term at a time.
use Rattle.std.proofs.Common.{◌≡◌, ℕ, ◌≤◌, ◌&&◌, ◌||◌, List, [], ◌∷◌, map, Bool, true, false, Option, Some, None, refl, sym, subst, ◌∙◌}
use Rattle.std.specs.Prelude.{if◌then◌else◌}
use Rattle.std.proofs.lemmas.Bool.{and_parts}
use Rattle.hp_math.specs.Rational.{ℚ, ◌+ℚ◌, ◌-ℚ◌, neg_ℚ, is_whole}
use Rattle.hp_tree.specs.declared.term.Term.{Term, fold-roll-Term, ind-Term, roll-Term, map-Term}
use Rattle.hp_tree.specs.declared.term.Term.TheOpen.{Term-F}
use Rattle.hp_tree.specs.declared.problem.Sort.{Sort}
use Rattle.hp_tree.specs.declared.problem.Sort.TheVariants.{Num, Idx, Ptr}
use Rattle.hp_tree.specs.Sorted.{is_of_sort}
use Rattle.hp_tree.specs.Value.{Word, Environment, Functions, value, value_step}
use Rattle.hp_terms.specs.declared.forms.Forms.{Forms}
use Rattle.hp_terms.specs.Scope.{Profile, Scope}
use Rattle.hp_terms.specs.Sorting.{application_forms, difference_forms, fit, forms_of, forms_step, has_form, name_forms, negation_forms, no_forms, sort_forms, sum_forms}
use Rattle.hp_terms.specs.Laws.{AreOfSort, KeepsSorts, SortedTermsHaveSortedValues}
use Rattle.hp_terms.proofs.Whole.{null_pointer, whole_difference, whole_opposite, whole_sum}

-- a value is of each sort whose terms the term is one of, and whole where the term is a whole number
pub record Fits (size : ℕ) (forms : Forms) (x : ℚ) : Type 0 where
  pub sorts : (sort : Sort) → has_form forms sort ≡ true → is_of_sort size sort x ≡ true
  pub whole : forms.whole ≡ true → is_whole x ≡ true

-- what the parts of a disjunction of conjunctions give
pub either_both : {P : Type 0} (a b c d : Bool) → ((a && b) || (c && d)) ≡ true → (a ≡ true → b ≡ true → P) → (c ≡ true → d ≡ true → P) → P
either_both true true c d e f g = f refl refl
either_both true false c d e f g = let h = and_parts c d e in g h.0 h.1
either_both false b c d e f g = let h = and_parts c d e in g h.0 h.1

module _ (size : ℕ) where
  nothing_fits : (x : ℚ) → Fits size no_forms x
  nothing_fits x = record { sorts = none; whole = λ e. absurd (cc) }
    where
      none : (sort : Sort) → has_form no_forms sort ≡ true → is_of_sort size sort x ≡ true
      none Num e = refl
      none Idx e = absurd (cc)
      none Ptr e = absurd (cc)

  sort_fits : (sort : Sort) (x : ℚ) → is_of_sort size sort x ≡ true → Fits size (sort_forms sort) x
  sort_fits sort x h = record { sorts = by sort h; whole = unsaid sort }
    where
      by : (own : Sort) → is_of_sort size own x ≡ true → (other : Sort) → has_form (sort_forms own) other ≡ true → is_of_sort size other x ≡ true
      by own h Num e = refl
      by Num h Idx e = absurd (cc)
      by Idx h Idx e = h
      by Ptr h Idx e = absurd (cc)
      by Num h Ptr e = absurd (cc)
      by Idx h Ptr e = absurd (cc)
      by Ptr h Ptr e = h

      unsaid : (own : Sort) → (sort_forms own).whole ≡ true → is_whole x ≡ true
      unsaid Num e = absurd (cc)
      unsaid Idx e = absurd (cc)
      unsaid Ptr e = absurd (cc)

  sum_fits : (f g : Forms) (x y : ℚ) → Fits size f x → Fits size g y → Fits size (sum_forms f g) (x +ℚ y)
  sum_fits f g x y p q = record { sorts = by; whole = λ e. absurd (cc) }
    where
      by : (sort : Sort) → has_form (sum_forms f g) sort ≡ true → is_of_sort size sort (x +ℚ y) ≡ true
      by Num e = refl
      by Idx e = either_both f.idx g.whole f.whole g.idx e (λ i w. whole_sum x y (p.sorts Idx i) (q.whole w)) (λ w i. whole_sum x y (p.whole w) (q.sorts Idx i))
      by Ptr e = absurd (cc)

  difference_fits : (f g : Forms) (x y : ℚ) → Fits size f x → Fits size g y → Fits size (difference_forms f g) (x -ℚ y)
  difference_fits f g x y p q = record { sorts = by; whole = λ e. absurd (cc) }
    where
      by : (sort : Sort) → has_form (difference_forms f g) sort ≡ true → is_of_sort size sort (x -ℚ y) ≡ true
      by Num e = refl
      by Idx e = let h = and_parts f.idx g.whole e in whole_difference x y (p.sorts Idx h.0) (q.whole h.1)
      by Ptr e = absurd (cc)

  opposite_fits : (f : Forms) (x : ℚ) → Fits size f x → Fits size (negation_forms f) (neg_ℚ x)
  opposite_fits f x p = record { sorts = by; whole = λ e. absurd (cc) }
    where
      by : (sort : Sort) → has_form (negation_forms f) sort ≡ true → is_of_sort size sort (neg_ℚ x) ≡ true
      by Num e = refl
      by Idx e = whole_opposite x (p.whole e)
      by Ptr e = absurd (cc)

  number_fits : (forms : Forms) (x : ℚ) → forms.idx ≡ is_whole x → forms.whole ≡ is_whole x → (forms.ptr ≡ true → is_of_sort size Ptr x ≡ true) → Fits size forms x
  number_fits forms x i w p = record { sorts = by; whole = λ e. sym w ∙ e }
    where
      by : (sort : Sort) → has_form forms sort ≡ true → is_of_sort size sort x ≡ true
      by Num e = refl
      by Idx e = sym i ∙ e
      by Ptr e = p e

  -- a term without sorts but num
  num_fits : (forms : Forms) (x : ℚ) → forms.idx ≡ false → forms.ptr ≡ false → forms.whole ≡ false → Fits size forms x
  num_fits forms x i p w = record { sorts = by; whole = λ e. absurd (cc) }
    where
      by : (sort : Sort) → has_form forms sort ≡ true → is_of_sort size sort x ≡ true
      by Num e = refl
      by Idx e = absurd (cc)
      by Ptr e = absurd (cc)

module _ (size : ℕ) (scope : Scope) (env : Environment) (functions : Functions) (some : 1 ≤ size) (keeps : KeepsSorts size scope env functions) where
  abbrev IsFit : Term → Type 0
  IsFit t = Fits size (forms_of scope t) (value env functions t)

  abbrev terms : List ((t : Term) × IsFit t) → List Term
  terms args = map (λ (e : (t : Term) × IsFit t). e.0) args

  args_fit : (args : List ((t : Term) × IsFit t)) (sorts : List Sort) → fit (map (forms_of scope) (terms args)) sorts ≡ true
      → AreOfSort size sorts (map (value env functions) (terms args))
  args_fit [] [] e = tt
  args_fit [] (sort ∷ sorts) e = absurd (cc)
  args_fit (arg ∷ args) [] e = absurd (cc)
  args_fit (arg ∷ args) (sort ∷ sorts) e =
      let h = and_parts (has_form (forms_of scope arg.0) sort) (fit (map (forms_of scope) (terms args)) sorts) e in (arg.1.sorts sort h.0, args_fit args sorts h.1)

  name_fits : (name : Word) → Fits size (name_forms (scope.name name)) (env name)
  name_fits name = by (scope.name name) refl
    where
      by : (o : Option Sort) → scope.name name ≡ o → Fits size (name_forms o) (env name)
      by None e = nothing_fits size (env name)
      by (Some sort) e = sort_fits size sort (env name) (keeps.names name sort e)

  application_fits : (func : Word) (args : List ((t : Term) × IsFit t))
      → Fits size (application_forms (map (forms_of scope) (terms args)) (scope.function func)) (functions func (map (value env functions) (terms args)))
  application_fits func args = by (scope.function func) refl
    where
      within : (profile : Profile) → scope.function func ≡ Some profile → (b : Bool) → fit (map (forms_of scope) (terms args)) profile.args ≡ b
          → Fits size (if b then sort_forms profile.result else no_forms) (functions func (map (value env functions) (terms args)))
      within profile e false h = nothing_fits size _
      within profile e true h = sort_fits size profile.result _ (keeps.functions_keep func profile _ e (args_fit args profile.args h))

      by : (o : Option Profile) → scope.function func ≡ o → Fits size (application_forms (map (forms_of scope) (terms args)) o) (functions func (map (value env functions) (terms args)))
      by None e = nothing_fits size _
      by (Some profile) e = within profile e (fit (map (forms_of scope) (terms args)) profile.args) refl

  step_fits : (y : Term-F ((t : Term) × IsFit t))
      → Fits size (forms_step scope (map-Term Term Forms (forms_of scope) (map-Term ((t : Term) × IsFit t) Term (λ e. e.0) y)))
      (value_step env functions (map-Term Term ℚ (value env functions) (map-Term ((t : Term) × IsFit t) Term (λ e. e.0) y)))
  step_fits (Term-F.Number q) = number_fits size (forms_step scope (Term-F.Number q)) q refl refl (keeps.pointers q)
  step_fits Term-F.Null = sort_fits size Ptr _ (null_pointer size some)
  step_fits (Term-F.Name name) = name_fits name
  step_fits (Term-F.Apply func args) = application_fits func args
  step_fits (Term-F.Add a b) = sum_fits size (forms_of scope a.0) (forms_of scope b.0) (value env functions a.0) (value env functions b.0) a.1 b.1
  step_fits (Term-F.Sub a b) = difference_fits size (forms_of scope a.0) (forms_of scope b.0) (value env functions a.0) (value env functions b.0) a.1 b.1
  step_fits (Term-F.Neg a) = opposite_fits size (forms_of scope a.0) (value env functions a.0) a.1
  step_fits (Term-F.Scale q a) = num_fits size _ _ refl refl refl

  layer_fits : (y : Term-F ((t : Term) × IsFit t)) → IsFit (roll-Term (map-Term ((t : Term) × IsFit t) Term (λ e. e.0) y))
  layer_fits y =
      let z = map-Term ((t : Term) × IsFit t) Term (λ e. e.0) y in
      let forms = fold-roll-Term Forms (forms_step scope) z in
      let values = fold-roll-Term ℚ (value_step env functions) z in
      subst (λ (f : Forms). Fits size f (value env functions (roll-Term z))) (sym forms)
      (subst (λ (x : ℚ). Fits size (forms_step scope (map-Term Term Forms (forms_of scope) z)) x) (sym values) (step_fits y))

  pub term_fits : (t : Term) → IsFit t
  term_fits t = ind-Term IsFit (λ x y is. subst (λ z. IsFit (roll-Term z)) is (layer_fits y)) t

pub sorted_terms_have_sorted_values : SortedTermsHaveSortedValues
sorted_terms_have_sorted_values size scope env functions term sort some keeps h = (term_fits size scope env functions some keeps term).sorts sort h
