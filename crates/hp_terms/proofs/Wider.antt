-- What is sorted in a scope is sorted in each scope that says more.
use Rattle.std.proofs.Common.{◌≡◌, ◌&&◌, List, [], ◌∷◌, map, Bool, true, false, Option, Some, None, refl, sym, ap, subst, ◌∙◌}
use Rattle.std.specs.Prelude.{if◌then◌else◌, option_map, unwrap_or}
use Rattle.std.specs.Option.{option_or}
use Rattle.std.proofs.lemmas.Bool.{and_from, and_parts, or_left, or_right}
use Rattle.hp_math.specs.Rational.{ℚ}
use Rattle.hp_tree.specs.declared.term.Term.{Term, fold-roll-Term, ind-Term, roll-Term, map-Term}
use Rattle.hp_tree.specs.declared.term.Term.TheOpen.{Term-F}
use Rattle.hp_tree.specs.declared.problem.Sort.{Sort}
use Rattle.hp_tree.specs.declared.problem.Sort.TheVariants.{Num, Idx, Ptr}
use Rattle.hp_tree.specs.Value.{Word}
use Rattle.hp_terms.specs.declared.forms.Forms.{Forms}
use Rattle.hp_terms.specs.Scope.{Profile, Scope, Widens}
use Rattle.hp_terms.specs.Sorting.{application_forms, difference_forms, first_sort, first_step, fit, forms_of, forms_step, has_form, multiple_forms, name_forms, negation_forms, no_forms, number_forms, relates, sort_forms, sort_of, sum_forms}
use Rattle.hp_terms.specs.Laws.{WiderScopesKeepForms, WiderScopesKeepSorts}
use Rattle.hp_terms.proofs.Values.{either_both}

-- a term with these forms and this first sort keeps them: it is still of each sort, and then its first sort is the same
pub record Keeps (f g : Forms) (a b : Option Sort) : Type 0 where
  pub sorts : (sort : Sort) → has_form f sort ≡ true → has_form g sort ≡ true
  pub whole : f.whole ≡ true → g.whole ≡ true
  pub first : (sort : Sort) → has_form f sort ≡ true → a ≡ b
  pub whole_first : f.whole ≡ true → a ≡ b

nothing_kept : (g : Forms) (a b : Option Sort) → Keeps no_forms g a b
nothing_kept g a b = record { sorts = λ s e. absurd (none s e); whole = λ e. absurd (cc); first = λ s e. absurd (none s e); whole_first = λ e. absurd (cc) }
  where
    none : (sort : Sort) → has_form no_forms sort ≡ true → ⊥
    none Num e = cc
    none Idx e = cc
    none Ptr e = cc

same_kept : (f : Forms) (a : Option Sort) → Keeps f f a a
same_kept f a = record { sorts = λ s e. e; whole = λ e. e; first = λ s e. refl; whole_first = λ e. refl }

-- where one of two index terms is a whole number
sum_kept : (f1 f2 g1 g2 : Forms) (a1 a2 b1 b2 : Option Sort) → Keeps f1 g1 a1 b1 → Keeps f2 g2 a2 b2 → Keeps (sum_forms f1 f2) (sum_forms g1 g2) (option_or a1 a2) (option_or b1 b2)
sum_kept f1 f2 g1 g2 a1 a2 b1 b2 p q = record { sorts = sorts; whole = λ e. absurd (cc); first = first; whole_first = λ e. absurd (cc) }
  where
    sorts : (sort : Sort) → has_form (sum_forms f1 f2) sort ≡ true → has_form (sum_forms g1 g2) sort ≡ true
    sorts Num e = let h = and_parts f1.num f2.num e in and_from g1.num g2.num (p.sorts Num h.0) (q.sorts Num h.1)
    sorts Idx e = either_both f1.idx f2.whole f1.whole f2.idx e
        (λ i w. or_left (g1.idx && g2.whole) (g1.whole && g2.idx) (and_from g1.idx g2.whole (p.sorts Idx i) (q.whole w)))
        (λ w i. or_right (g1.idx && g2.whole) (g1.whole && g2.idx) (and_from g1.whole g2.idx (p.whole w) (q.sorts Idx i)))
    sorts Ptr e = absurd (cc)

    first : (sort : Sort) → has_form (sum_forms f1 f2) sort ≡ true → option_or a1 a2 ≡ option_or b1 b2
    first Num e = let h = and_parts f1.num f2.num e in λ i. option_or (p.first Num h.0 i) (q.first Num h.1 i)
    first Idx e = either_both f1.idx f2.whole f1.whole f2.idx e
        (λ i w. (λ j. option_or (p.first Idx i j) (q.whole_first w j))) (λ w i. (λ j. option_or (p.whole_first w j) (q.first Idx i j)))
    first Ptr e = absurd (cc)

difference_kept : (f1 f2 g1 g2 : Forms) (a1 a2 b1 b2 : Option Sort) → Keeps f1 g1 a1 b1 → Keeps f2 g2 a2 b2
    → Keeps (difference_forms f1 f2) (difference_forms g1 g2) (option_or a1 a2) (option_or b1 b2)
difference_kept f1 f2 g1 g2 a1 a2 b1 b2 p q = record { sorts = sorts; whole = λ e. absurd (cc); first = first; whole_first = λ e. absurd (cc) }
  where
    sorts : (sort : Sort) → has_form (difference_forms f1 f2) sort ≡ true → has_form (difference_forms g1 g2) sort ≡ true
    sorts Num e = let h = and_parts f1.num f2.num e in and_from g1.num g2.num (p.sorts Num h.0) (q.sorts Num h.1)
    sorts Idx e = let h = and_parts f1.idx f2.whole e in and_from g1.idx g2.whole (p.sorts Idx h.0) (q.whole h.1)
    sorts Ptr e = absurd (cc)

    first : (sort : Sort) → has_form (difference_forms f1 f2) sort ≡ true → option_or a1 a2 ≡ option_or b1 b2
    first Num e = let h = and_parts f1.num f2.num e in λ i. option_or (p.first Num h.0 i) (q.first Num h.1 i)
    first Idx e = let h = and_parts f1.idx f2.whole e in λ i. option_or (p.first Idx h.0 i) (q.whole_first h.1 i)
    first Ptr e = absurd (cc)

negation_kept : (f g : Forms) (a b : Option Sort) → Keeps f g a b → Keeps (negation_forms f) (negation_forms g) a b
negation_kept f g a b p = record { sorts = sorts; whole = λ e. absurd (cc); first = first; whole_first = λ e. absurd (cc) }
  where
    sorts : (sort : Sort) → has_form (negation_forms f) sort ≡ true → has_form (negation_forms g) sort ≡ true
    sorts Num e = p.sorts Num e
    sorts Idx e = p.whole e
    sorts Ptr e = absurd (cc)

    first : (sort : Sort) → has_form (negation_forms f) sort ≡ true → a ≡ b
    first Num e = p.first Num e
    first Idx e = p.whole_first e
    first Ptr e = absurd (cc)

multiple_kept : (f g : Forms) (a b : Option Sort) → Keeps f g a b → Keeps (multiple_forms f) (multiple_forms g) a b
multiple_kept f g a b p = record { sorts = sorts; whole = λ e. absurd (cc); first = first; whole_first = λ e. absurd (cc) }
  where
    sorts : (sort : Sort) → has_form (multiple_forms f) sort ≡ true → has_form (multiple_forms g) sort ≡ true
    sorts Num e = p.sorts Num e
    sorts Idx e = absurd (cc)
    sorts Ptr e = absurd (cc)

    first : (sort : Sort) → has_form (multiple_forms f) sort ≡ true → a ≡ b
    first Num e = p.first Num e
    first Idx e = absurd (cc)
    first Ptr e = absurd (cc)

number_kept : (one other : ℚ → Bool) (q : ℚ) → (one q ≡ true → other q ≡ true) → Keeps (number_forms one q) (number_forms other q) None None
number_kept one other q h = record { sorts = sorts; whole = λ e. e; first = λ s e. refl; whole_first = λ e. refl }
  where
    sorts : (sort : Sort) → has_form (number_forms one q) sort ≡ true → has_form (number_forms other q) sort ≡ true
    sorts Num e = refl
    sorts Idx e = e
    sorts Ptr e = h e

module _ (less more : Scope) (wider : Widens less more) where
  abbrev Stays : Term → Type 0
  Stays t = Keeps (forms_of less t) (forms_of more t) (first_sort less t) (first_sort more t)

  abbrev terms : List ((t : Term) × Stays t) → List Term
  terms args = map (λ (e : (t : Term) × Stays t). e.0) args

  args_kept : (args : List ((t : Term) × Stays t)) (sorts : List Sort) → fit (map (forms_of less) (terms args)) sorts ≡ true → fit (map (forms_of more) (terms args)) sorts ≡ true
  args_kept [] [] e = refl
  args_kept [] (sort ∷ sorts) e = absurd (cc)
  args_kept (arg ∷ args) [] e = absurd (cc)
  args_kept (arg ∷ args) (sort ∷ sorts) e =
      let h = and_parts (has_form (forms_of less arg.0) sort) (fit (map (forms_of less) (terms args)) sorts) e in
      and_from (has_form (forms_of more arg.0) sort) (fit (map (forms_of more) (terms args)) sorts) (arg.1.sorts sort h.0) (args_kept args sorts h.1)

  name_kept : (name : Word) → Keeps (name_forms (less.name name)) (name_forms (more.name name)) (less.name name) (more.name name)
  name_kept name = by (less.name name) refl
    where
      by : (o : Option Sort) → less.name name ≡ o → Keeps (name_forms o) (name_forms (more.name name)) o (more.name name)
      by None e = nothing_kept (name_forms (more.name name)) None (more.name name)
      by (Some sort) e = subst (λ (o : Option Sort). Keeps (sort_forms sort) (name_forms o) (Some sort) o) (sym (wider.names name sort e)) (same_kept (sort_forms sort) (Some sort))

  application_kept : (func : Word) (args : List ((t : Term) × Stays t))
      → Keeps (application_forms (map (forms_of less) (terms args)) (less.function func)) (application_forms (map (forms_of more) (terms args)) (more.function func))
      (option_map (λ (profile : Profile). profile.result) (less.function func)) (option_map (λ (profile : Profile). profile.result) (more.function func))
  application_kept func args = by (less.function func) refl
    where
      within : (profile : Profile) (b c : Bool) → (b ≡ true → c ≡ true)
          → Keeps (if b then sort_forms profile.result else no_forms) (if c then sort_forms profile.result else no_forms) (Some profile.result) (Some profile.result)
      within profile false c h = nothing_kept _ _ _
      within profile true false h = absurd (let no = h refl in cc)
      within profile true true h = same_kept _ _

      by : (o : Option Profile) → less.function func ≡ o
          → Keeps (application_forms (map (forms_of less) (terms args)) o) (application_forms (map (forms_of more) (terms args)) (more.function func))
          (option_map (λ (profile : Profile). profile.result) o) (option_map (λ (profile : Profile). profile.result) (more.function func))
      by None e = nothing_kept _ _ _
      by (Some profile) e =
          subst (λ (o : Option Profile). Keeps (application_forms (map (forms_of less) (terms args)) (Some profile)) (application_forms (map (forms_of more) (terms args)) o)
          (Some profile.result) (option_map (λ (found : Profile). found.result) o)) (sym (wider.functions func profile e))
          (within profile (fit (map (forms_of less) (terms args)) profile.args) (fit (map (forms_of more) (terms args)) profile.args) (args_kept args profile.args))

  step_kept : (y : Term-F ((t : Term) × Stays t)) → let z = map-Term ((t : Term) × Stays t) Term (λ e. e.0) y in
      Keeps (forms_step less (map-Term Term Forms (forms_of less) z)) (forms_step more (map-Term Term Forms (forms_of more) z))
      (first_step less (map-Term Term (Option Sort) (first_sort less) z)) (first_step more (map-Term Term (Option Sort) (first_sort more) z))
  step_kept (Term-F.Number q) = number_kept less.pointer more.pointer q (wider.pointers q)
  step_kept Term-F.Null = same_kept (sort_forms Ptr) (Some Ptr)
  step_kept (Term-F.Name name) = name_kept name
  step_kept (Term-F.Apply func args) = application_kept func args
  step_kept (Term-F.Add a b) = sum_kept (forms_of less a.0) (forms_of less b.0) (forms_of more a.0) (forms_of more b.0)
      (first_sort less a.0) (first_sort less b.0) (first_sort more a.0) (first_sort more b.0) a.1 b.1
  step_kept (Term-F.Sub a b) = difference_kept (forms_of less a.0) (forms_of less b.0) (forms_of more a.0) (forms_of more b.0)
      (first_sort less a.0) (first_sort less b.0) (first_sort more a.0) (first_sort more b.0) a.1 b.1
  step_kept (Term-F.Neg a) = negation_kept (forms_of less a.0) (forms_of more a.0) (first_sort less a.0) (first_sort more a.0) a.1
  step_kept (Term-F.Scale q a) = multiple_kept (forms_of less a.0) (forms_of more a.0) (first_sort less a.0) (first_sort more a.0) a.1

  layer_kept : (y : Term-F ((t : Term) × Stays t)) → Stays (roll-Term (map-Term ((t : Term) × Stays t) Term (λ e. e.0) y))
  layer_kept y =
      let z = map-Term ((t : Term) × Stays t) Term (λ e. e.0) y in
      let lf = fold-roll-Term Forms (forms_step less) z in
      let mf = fold-roll-Term Forms (forms_step more) z in
      let ls = fold-roll-Term (Option Sort) (first_step less) z in
      let ms = fold-roll-Term (Option Sort) (first_step more) z in
      let h = step_kept y in
      record {
        sorts = λ s e. ap (λ (f : Forms). has_form f s) mf ∙ h.sorts s (sym (ap (λ (f : Forms). has_form f s) lf) ∙ e);
        whole = λ e. ap (λ (f : Forms). f.whole) mf ∙ h.whole (sym (ap (λ (f : Forms). f.whole) lf) ∙ e);
        first = λ s e. ls ∙ h.first s (sym (ap (λ (f : Forms). has_form f s) lf) ∙ e) ∙ sym ms;
        whole_first = λ e. ls ∙ h.whole_first (sym (ap (λ (f : Forms). f.whole) lf) ∙ e) ∙ sym ms;
      }

  pub stays : (t : Term) → Stays t
  stays t = ind-Term Stays (λ x y is. subst (λ z. Stays (roll-Term z)) is (layer_kept y)) t

pub wider_scopes_keep_forms : WiderScopesKeepForms
wider_scopes_keep_forms less more term sort wider e = (stays less more wider term).sorts sort e

pub wider_scopes_keep_sorts : WiderScopesKeepSorts
wider_scopes_keep_sorts less more atom wider e =
    let sort = sort_of less atom in
    let left = stays less more wider atom.left in
    let right = stays less more wider atom.right in
    let parts = and_parts (has_form (forms_of less atom.left) sort && has_form (forms_of less atom.right) sort) (relates sort atom.cmp) e in
    let sides = and_parts (has_form (forms_of less atom.left) sort) (has_form (forms_of less atom.right) sort) parts.0 in
    let same : sort ≡ sort_of more atom = λ i. unwrap_or (option_or (left.first sort sides.0 i) (right.first sort sides.1 i)) Num in (
      same,
      subst (λ (s : Sort). (has_form (forms_of more atom.left) s && has_form (forms_of more atom.right) s && relates s atom.cmp) ≡ true) same
          (and_from (has_form (forms_of more atom.left) sort && has_form (forms_of more atom.right) sort) (relates sort atom.cmp)
          (and_from (has_form (forms_of more atom.left) sort) (has_form (forms_of more atom.right) sort) (left.sorts sort sides.0) (right.sorts sort sides.1)) parts.1),
    )
