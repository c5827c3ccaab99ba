-- The parts of a term that is of some sort are of some sort, and an application follows the profile of its function.
use Rattle.std.proofs.Common.{◌≡◌, suc, List, [], ◌∷◌, map, length, Bool, true, false, Option, Some, None, refl, sym, ap, subst, ◌∙◌}
use Rattle.std.specs.Prelude.{if◌then◌else◌}
use Rattle.std.specs.List.{All, AllZip}
use Rattle.std.proofs.lemmas.Bool.{and_parts}
use Rattle.std.proofs.lemmas.List.Elements.{All-nil, All-cons}
use Rattle.hp_tree.specs.declared.term.Term.{Term, fold-roll-Term, ind-Term, roll-Term, map-Term}
use Rattle.hp_tree.specs.declared.term.Term.TheOpen.{Term-F}
use Rattle.hp_tree.specs.declared.problem.Sort.{Sort}
use Rattle.hp_tree.specs.declared.problem.Sort.TheVariants.{Num, Idx, Ptr}
use Rattle.hp_tree.specs.Value.{Word}
use Rattle.hp_terms.specs.declared.forms.Forms.{Forms}
use Rattle.hp_terms.specs.Scope.{Profile, Scope}
use Rattle.hp_terms.specs.Sorting.{application_forms, difference_forms, fit, forms_of, forms_step, has_form, multiple_forms, name_forms, negation_forms, no_forms, sort_forms, sum_forms}
use Rattle.hp_terms.specs.Laws.{ApplicationsFollowProfiles, FollowsProfile, HasSort, PartsOfSortedTermsAreSorted, parts_of}
use Rattle.hp_terms.proofs.Values.{either_both}

-- ---- applications
no_form : (sort : Sort) → has_form no_forms sort ≡ true → ⊥
no_form Num e = cc
no_form Idx e = cc
no_form Ptr e = cc

one_sort : (own sort : Sort) → has_form (sort_forms own) sort ≡ true → own ≡ sort
one_sort Num Num e = refl
one_sort Idx Idx e = refl
one_sort Ptr Ptr e = refl
one_sort own sort e = absurd (cc)

module _ (scope : Scope) where
  fit_each : (args : List Term) (sorts : List Sort) → fit (map (forms_of scope) args) sorts ≡ true
      → AllZip (λ arg place. has_form (forms_of scope arg) place ≡ true) args sorts × (length args ≡ length sorts)
  fit_each [] [] e = (tt, refl)
  fit_each [] (sort ∷ sorts) e = absurd (cc)
  fit_each (arg ∷ args) [] e = absurd (cc)
  fit_each (arg ∷ args) (sort ∷ sorts) e =
      let h = and_parts (has_form (forms_of scope arg) sort) (fit (map (forms_of scope) args) sorts) e in
      let rest = fit_each args sorts h.1 in
      ((h.0, rest.0), ap suc rest.1)

  pub follows : (func : Word) (args : List Term) (sort : Sort) → has_form (application_forms (map (forms_of scope) args) (scope.function func)) sort ≡ true
      → FollowsProfile scope func args sort
  follows func args sort = by (scope.function func) refl
    where
      fits : (profile : Profile) → scope.function func ≡ Some profile → (b : Bool) → fit (map (forms_of scope) args) profile.args ≡ b
          → has_form (if b then sort_forms profile.result else no_forms) sort ≡ true → FollowsProfile scope func args sort
      fits profile known false e h = absurd (no_form sort h)
      fits profile known true e h =
          let each = fit_each args profile.args e in
          record { profile = profile; known = known; count = each.1; each = each.0; result = one_sort profile.result sort h }

      by : (o : Option Profile) → scope.function func ≡ o → has_form (application_forms (map (forms_of scope) args) o) sort ≡ true → FollowsProfile scope func args sort
      by None e h = absurd (no_form sort h)
      by (Some profile) e h = fits profile e (fit (map (forms_of scope) args) profile.args) refl h

  -- ---- parts
  -- a whole number is a num term
  abbrev IsNumber : Forms → Type 0
  IsNumber forms = forms.whole ≡ true → forms.num ≡ true

  unsaid : (sort : Option Sort) → IsNumber (name_forms sort)
  unsaid None e = absurd (cc)
  unsaid (Some Num) e = absurd (cc)
  unsaid (Some Idx) e = absurd (cc)
  unsaid (Some Ptr) e = absurd (cc)

  unsaid_application : (args : List Forms) (profile : Option Profile) → IsNumber (application_forms args profile)
  unsaid_application args None e = absurd (cc)
  unsaid_application args (Some profile) e = by (fit args profile.args) e
    where
      by : (b : Bool) → IsNumber (if b then sort_forms profile.result else no_forms)
      by true e = unsaid (Some profile.result) e
      by false e = absurd (cc)

  step_number : (z : Term-F Forms) → IsNumber (forms_step scope z)
  step_number (Term-F.Number q) e = refl
  step_number Term-F.Null e = absurd (cc)
  step_number (Term-F.Name name) e = unsaid (scope.name name) e
  step_number (Term-F.Apply func args) e = unsaid_application args (scope.function func) e
  step_number (Term-F.Add a b) e = absurd (cc)
  step_number (Term-F.Sub a b) e = absurd (cc)
  step_number (Term-F.Neg a) e = absurd (cc)
  step_number (Term-F.Scale q a) e = absurd (cc)

  abbrev IsNumberTerm : Term → Type 0
  IsNumberTerm t = IsNumber (forms_of scope t)

  number_layer : (z : Term-F Term) → IsNumberTerm (roll-Term z)
  number_layer z = subst IsNumber (sym (fold-roll-Term Forms (forms_step scope) z)) (step_number (map-Term Term Forms (forms_of scope) z))

  number : (t : Term) → IsNumberTerm t
  number t = ind-Term IsNumberTerm (λ x y is. number_layer x) t

  whole_sorted : (t : Term) → (forms_of scope t).whole ≡ true → HasSort scope t
  whole_sorted t e = record { sort = Num; is = number t e }

  of_sort : (t : Term) (sort : Sort) → has_form (forms_of scope t) sort ≡ true → HasSort scope t
  of_sort t sort e = record { sort = sort; is = e }

  two : (a b : Term) → HasSort scope a → HasSort scope b → All (HasSort scope) (a ∷ b ∷ [])
  two a b p q = All-cons (HasSort scope) a (b ∷ []) p (All-cons (HasSort scope) b [] q (All-nil (HasSort scope)))

  one : (a : Term) → HasSort scope a → All (HasSort scope) (a ∷ [])
  one a p = All-cons (HasSort scope) a [] p (All-nil (HasSort scope))

  sum_parts : (a b : Term) (sort : Sort) → has_form (sum_forms (forms_of scope a) (forms_of scope b)) sort ≡ true → All (HasSort scope) (a ∷ b ∷ [])
  sum_parts a b Num e = let h = and_parts (forms_of scope a).num (forms_of scope b).num e in two a b (of_sort a Num h.0) (of_sort b Num h.1)
  sum_parts a b Idx e = either_both (forms_of scope a).idx (forms_of scope b).whole (forms_of scope a).whole (forms_of scope b).idx e
      (λ i w. two a b (of_sort a Idx i) (whole_sorted b w)) (λ w i. two a b (whole_sorted a w) (of_sort b Idx i))
  sum_parts a b Ptr e = absurd (cc)

  difference_parts : (a b : Term) (sort : Sort) → has_form (difference_forms (forms_of scope a) (forms_of scope b)) sort ≡ true → All (HasSort scope) (a ∷ b ∷ [])
  difference_parts a b Num e = let h = and_parts (forms_of scope a).num (forms_of scope b).num e in two a b (of_sort a Num h.0) (of_sort b Num h.1)
  difference_parts a b Idx e = let h = and_parts (forms_of scope a).idx (forms_of scope b).whole e in two a b (of_sort a Idx h.0) (whole_sorted b h.1)
  difference_parts a b Ptr e = absurd (cc)

  negation_parts : (a : Term) (sort : Sort) → has_form (negation_forms (forms_of scope a)) sort ≡ true → All (HasSort scope) (a ∷ [])
  negation_parts a Num e = one a (of_sort a Num e)
  negation_parts a Idx e = one a (whole_sorted a e)
  negation_parts a Ptr e = absurd (cc)

  multiple_parts : (a : Term) (sort : Sort) → has_form (multiple_forms (forms_of scope a)) sort ≡ true → All (HasSort scope) (a ∷ [])
  multiple_parts a Num e = one a (of_sort a Num e)
  multiple_parts a Idx e = absurd (cc)
  multiple_parts a Ptr e = absurd (cc)

  args_parts : (args : List Term) (sorts : List Sort) → AllZip (λ arg place. has_form (forms_of scope arg) place ≡ true) args sorts → All (HasSort scope) args
  args_parts [] sorts h = All-nil (HasSort scope)
  args_parts (arg ∷ args) [] h = absurd h
  args_parts (arg ∷ args) (sort ∷ sorts) h = All-cons (HasSort scope) arg args (of_sort arg sort h.0) (args_parts args sorts h.1)

  application_parts : (func : Word) (args : List Term) (sort : Sort) → has_form (application_forms (map (forms_of scope) args) (scope.function func)) sort ≡ true → All (HasSort scope) args
  application_parts func args sort e = let h = follows func args sort e in args_parts args h.profile.args h.each

  step_parts : (z : Term-F Term) (sort : Sort) → has_form (forms_step scope (map-Term Term Forms (forms_of scope) z)) sort ≡ true → All (HasSort scope) (parts_of z)
  step_parts (Term-F.Number q) sort e = All-nil (HasSort scope)
  step_parts Term-F.Null sort e = All-nil (HasSort scope)
  step_parts (Term-F.Name name) sort e = All-nil (HasSort scope)
  step_parts (Term-F.Apply func args) sort e = application_parts func args sort e
  step_parts (Term-F.Add a b) sort e = sum_parts a b sort e
  step_parts (Term-F.Sub a b) sort e = difference_parts a b sort e
  step_parts (Term-F.Neg a) sort e = negation_parts a sort e
  step_parts (Term-F.Scale q a) sort e = multiple_parts a sort e

pub parts_of_sorted_terms_are_sorted : PartsOfSortedTermsAreSorted
parts_of_sorted_terms_are_sorted scope layer h =
    step_parts scope layer h.sort (sym (ap (λ (f : Forms). has_form f h.sort) (fold-roll-Term Forms (forms_step scope) layer)) ∙ h.is)

pub applications_follow_profiles : ApplicationsFollowProfiles
applications_follow_profiles scope func args sort e =
    follows scope func args sort (sym (ap (λ (f : Forms). has_form f sort) (fold-roll-Term Forms (forms_step scope) (Term-F.Apply func args))) ∙ e)
