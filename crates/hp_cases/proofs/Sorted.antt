-- Num terms and atoms stay so where num terms stand for their names.
use Rattle.std.proofs.Common.{◌≡◌, ◌∙◌, List, [], ◌∷◌, map, Bool, true, false, ◌&&◌, Option, Some, None, refl, sym, ap, subst}
use Rattle.std.specs.Prelude.{if◌then◌else◌, option_map, unwrap_or}
use Rattle.std.specs.Option.{option_or}
use Rattle.std.specs.List.{All}
use Rattle.std.proofs.lemmas.Bool.{and_from, and_parts}
use Rattle.std.proofs.lemmas.List.Elements.{All-head, All-tail}
use Rattle.hp_tree.specs.declared.problem.Atom.{Atom}
use Rattle.hp_tree.specs.declared.problem.Sort.{Sort}
use Rattle.hp_tree.specs.declared.problem.Sort.TheVariants.{Num, Idx, Ptr}
use Rattle.hp_tree.specs.declared.term.Term.{Term, fold-roll-Term, map-Term, roll-Term}
use Rattle.hp_tree.specs.declared.term.Term.TheOpen.{Term-F}
use Rattle.hp_tree.specs.Value.{Word}
use Rattle.hp_terms.specs.declared.forms.Forms.{Forms}
use Rattle.hp_terms.specs.Scope.{Profile, Scope}
use Rattle.hp_terms.specs.Sorting.{application_forms, atom_is_sorted, first_sort, first_step, fit, forms_of, forms_step, has_form, is_sorted, name_forms, no_forms, sort_forms, sort_of}
use Rattle.hp_local.specs.Substitution.{substitute, substitute_atom, substitute_step}
use Rattle.hp_flatten.specs.declared.application.Application.{Application}
use Rattle.hp_flatten.specs.Applications.{applications}
use Rattle.hp_flatten.specs.Laws.{AreNum}
use Rattle.hp_cases.proofs.Applied.{lower_terms, none_lower}

-- a first sort that is num, where there is one
abbrev pub IsNumFirst : Option Sort → Type 0
IsNumFirst None = Unit {0}
IsNumFirst (Some s) = s ≡ Num

first_or : (o p : Option Sort) → IsNumFirst o → IsNumFirst p → IsNumFirst (option_or o p)
first_or None p h k = k
first_or (Some s) p h k = h

first_num : (o : Option Sort) → IsNumFirst o → unwrap_or o Num ≡ Num
first_num None h = refl
first_num (Some s) h = h

named_num : (o : Option Sort) → has_form (name_forms o) Num ≡ true → o ≡ Some Num
named_num None e = absurd (cc)
named_num (Some Num) e = refl
named_num (Some Idx) e = absurd (cc)
named_num (Some Ptr) e = absurd (cc)

-- a num term
pub record IsNum (scope : Scope) (t : Term) : Type 0 where
  pub form : has_form (forms_of scope t) Num ≡ true
  pub first : IsNumFirst (first_sort scope t)

-- a function of num to num in both scopes
pub record IsNumFunction (less more : Scope) (func : Word) : Type 0 where
  pub profile : Profile
  pub before : less.function func ≡ Some profile
  pub after : more.function func ≡ Some profile
  pub args : AreNum profile.args
  pub result : profile.result ≡ Num

fits_so : (b : Bool) (s : Sort) → has_form (if b then sort_forms s else no_forms) Num ≡ true → b ≡ true
fits_so true s e = refl
fits_so false s e = absurd (cc)

module _ (less more : Scope) (r : Word → Term) (named : (word : Word) → less.name word ≡ Some Num → IsNum more (r word)) where
  abbrev P : Term → Type 0
  P t = has_form (forms_of less t) Num ≡ true → IsNum more (substitute r t)

  fold : (y : Term-F Term) → substitute r (roll-Term y) ≡ substitute_step r (map-Term Term Term (substitute r) y)
  fold y = fold-roll-Term Term (substitute_step r) y

  was : (y : Term-F Term) → forms_of less (roll-Term y) ≡ forms_step less (map-Term Term Forms (forms_of less) y)
  was y = fold-roll-Term Forms (forms_step less) y

  now : (y z : Term-F Term) → substitute r (roll-Term y) ≡ roll-Term z → has_form (forms_step more (map-Term Term Forms (forms_of more) z)) Num ≡ true
      → IsNumFirst (first_step more (map-Term Term (Option Sort) (first_sort more) z)) → IsNum more (substitute r (roll-Term y))
  now y z is form first = subst (IsNum more) (sym is) (record {
    form = ap (λ f. has_form f Num) (fold-roll-Term Forms (forms_step more) z) ∙ form;
    first = subst IsNumFirst (sym (fold-roll-Term (Option Sort) (first_step more) z)) first;
  })

  abbrev Lower : Application → Type 0
  Lower a = IsNumFunction less more a.func

  args_fit : (args : List Term) (places : List Sort) → AreNum places → All P args → fit (map (forms_of less) args) places ≡ true → fit (map (forms_of more) (map (substitute r) args)) places ≡ true
  args_fit [] [] n h e = refl
  args_fit [] (s ∷ places) n h e = absurd (cc)
  args_fit (t ∷ args) [] n h e = absurd (cc)
  args_fit (t ∷ args) (s ∷ places) n h e =
      let w = and_parts (has_form (forms_of less t) s) (fit (map (forms_of less) args) places) e in
      let num = All-head (λ z. z ≡ Num) s places n in
      let here = (All-head P t args h (ap (has_form (forms_of less t)) (sym num) ∙ w.0)).form in
      and_from (has_form (forms_of more (substitute r t)) s) (fit (map (forms_of more) (map (substitute r) args)) places)
      (ap (has_form (forms_of more (substitute r t))) num ∙ here) (args_fit args places (All-tail (λ z. z ≡ Num) s places n) (All-tail P t args h) w.1)

  value_num : (func : Word) (args : List Term) → IsNumFunction less more func → All P args → P (roll-Term (Term-F.Apply func args))
  value_num func args h all e =
      let p = h.profile in
      let fs = map (forms_of less) args in
      let gs = map (forms_of more) (map (substitute r) args) in
      let fitted = fits_so (fit fs p.args) p.result (sym (ap (λ f. has_form f Num) (was (Term-F.Apply func args) ∙ ap (application_forms fs) h.before)) ∙ e) in
      now (Term-F.Apply func args) (Term-F.Apply func (map (substitute r) args)) (fold (Term-F.Apply func args))
      (ap (λ o. has_form (application_forms gs o) Num) h.after ∙ ap (λ b. has_form (if b then sort_forms p.result else no_forms) Num) (args_fit args p.args h.args all fitted)
      ∙ ap (λ s. has_form (sort_forms s) Num) h.result)
      (subst (λ (o : Option Profile). IsNumFirst (option_map (λ (q : Profile). q.result) o)) (sym h.after) h.result)

  pub num_terms : (t : Term) → All Lower (applications t) → P t
  num_terms t lower = lower_terms Lower P (record {
    number = λ q e. now (Term-F.Number q) (Term-F.Number q) (fold (Term-F.Number q)) refl tt;
    null = λ e. absurd (let no = sym (ap (λ f. has_form f Num) (was Term-F.Null)) ∙ e in cc);
    name = λ word e. subst (IsNum more) (sym (fold (Term-F.Name word)))
        (named word (named_num (less.name word) (sym (ap (λ f. has_form f Num) (was (Term-F.Name word))) ∙ e)));
    apply = value_num;
    add = λ a b h k e. (let w = and_parts (has_form (forms_of less a) Num) (has_form (forms_of less b) Num) (sym (ap (λ f. has_form f Num) (was (Term-F.Add a b))) ∙ e) in
        let x = h w.0 in
        let y = k w.1 in
        now (Term-F.Add a b) (Term-F.Add (substitute r a) (substitute r b)) (fold (Term-F.Add a b))
        (and_from (has_form (forms_of more (substitute r a)) Num) (has_form (forms_of more (substitute r b)) Num) x.form y.form) (first_or _ _ x.first y.first));
    subtract = λ a b h k e. (let w = and_parts (has_form (forms_of less a) Num) (has_form (forms_of less b) Num) (sym (ap (λ f. has_form f Num) (was (Term-F.Sub a b))) ∙ e) in
        let x = h w.0 in
        let y = k w.1 in
        now (Term-F.Sub a b) (Term-F.Sub (substitute r a) (substitute r b)) (fold (Term-F.Sub a b))
        (and_from (has_form (forms_of more (substitute r a)) Num) (has_form (forms_of more (substitute r b)) Num) x.form y.form) (first_or _ _ x.first y.first));
    neg = λ a h e. (let x = h (sym (ap (λ f. has_form f Num) (was (Term-F.Neg a))) ∙ e) in
        now (Term-F.Neg a) (Term-F.Neg (substitute r a)) (fold (Term-F.Neg a)) x.form x.first);
    scale = λ q a h e. (let x = h (sym (ap (λ f. has_form f Num) (was (Term-F.Scale q a))) ∙ e) in
        now (Term-F.Scale q a) (Term-F.Scale q (substitute r a)) (fold (Term-F.Scale q a)) x.form x.first);
  }) t lower

  -- and num atoms
  pub num_atoms : (a : Atom) → applications a.left ≡ [] → applications a.right ≡ [] → is_sorted less Num a ≡ true → atom_is_sorted more (substitute_atom r a) ≡ true
  num_atoms a bare free e =
      let L = has_form (forms_of less a.left) Num in
      let R = has_form (forms_of less a.right) Num in
      let w = and_parts L R (and_parts (L && R) true e).0 in
      let x = num_terms a.left (none_lower Lower a.left bare) w.0 in
      let y = num_terms a.right (none_lower Lower a.right free) w.1 in
      let sort_is : sort_of more (substitute_atom r a) ≡ Num =
      first_num (option_or (first_sort more (substitute r a.left)) (first_sort more (substitute r a.right))) (first_or _ _ x.first y.first) in
      ap (λ s. is_sorted more s (substitute_atom r a)) sort_is
      ∙ and_from (has_form (forms_of more (substitute r a.left)) Num && has_form (forms_of more (substitute r a.right)) Num) true
      (and_from (has_form (forms_of more (substitute r a.left)) Num) (has_form (forms_of more (substitute r a.right)) Num) x.form y.form) refl
