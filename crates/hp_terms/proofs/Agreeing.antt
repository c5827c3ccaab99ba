-- Two scopes that say the same of all that occurs in a term sort it alike.
use Rattle.std.proofs.Common.{◌≡◌, ◌&&◌, List, [], ◌∷◌, ◌++◌, map, length, true, Option, refl, sym, ap, subst, ◌∙◌}
use Rattle.std.specs.Prelude.{option_map, unwrap_or}
use Rattle.std.specs.Option.{option_or}
use Rattle.std.specs.List.{All}
use Rattle.std.proofs.lemmas.List.{drop_at, take_at}
use Rattle.std.proofs.lemmas.List.Elements.{All-drop, All-head, All-take, All-tail}
use Rattle.hp_math.specs.Rational.{ℚ, is_whole}
use Rattle.hp_tree.specs.declared.term.Term.{Term, fold-roll-Term, ind-Term, roll-Term, map-Term}
use Rattle.hp_tree.specs.declared.term.Term.TheOpen.{Term-F}
use Rattle.hp_tree.specs.declared.problem.Sort.{Sort}
use Rattle.hp_tree.specs.declared.problem.Sort.TheVariants.{Num}
use Rattle.hp_tree.specs.Value.{Word}
use Rattle.hp_terms.specs.declared.forms.Forms.{Forms}
use Rattle.hp_terms.specs.Scope.{Profile, Scope}
use Rattle.hp_terms.specs.Sorting.{application_forms, difference_forms, first_sort, first_step, forms_of, forms_step, has_form, multiple_forms, name_forms, negation_forms, relates, sort_of, sum_forms}
use Rattle.hp_terms.specs.Occurring.{AgreeOn, functions_in, functions_step, joined, names_in, names_step, numbers_in, numbers_step}
use Rattle.hp_terms.specs.Laws.{AgreeingScopesFormAlike, AgreeingScopesSortAlike, IsFormedAlike}

-- ---- parts of lists
front : {X : Type 0} (P : X → Type 0) (xs ys : List X) → All P (xs ++ ys) → All P xs
front P xs ys h = subst (All P) (take_at xs ys (length xs) refl) (All-take P (length xs) (xs ++ ys) h)

back : {X : Type 0} (P : X → Type 0) (xs ys : List X) → All P (xs ++ ys) → All P ys
back P xs ys h = subst (All P) (drop_at xs ys (length xs) refl) (All-drop P (length xs) (xs ++ ys) h)

module _ (one other : Scope) where
  -- ---- what occurs
  abbrev SameName : Word → Type 0
  SameName word = one.name word ≡ other.name word

  abbrev SameFunction : Word → Type 0
  SameFunction word = one.function word ≡ other.function word

  abbrev SamePointer : ℚ → Type 0
  SamePointer number = one.pointer number ≡ other.pointer number

  -- they say the same of names, of functions and of numbers
  pub record AgreeOnAll (names functions : List Word) (numbers : List ℚ) : Type 0 where
    pub names_agree : All SameName names
    pub functions_agree : All SameFunction functions
    pub pointers_agree : All SamePointer numbers

  left_part : (ns ms fs gs : List Word) (ps qs : List ℚ) → AgreeOnAll (ns ++ ms) (fs ++ gs) (ps ++ qs) → AgreeOnAll ns fs ps
  left_part ns ms fs gs ps qs h = record {
    names_agree = front SameName ns ms h.names_agree;
    functions_agree = front SameFunction fs gs h.functions_agree;
    pointers_agree = front SamePointer ps qs h.pointers_agree;
  }

  right_part : (ns ms fs gs : List Word) (ps qs : List ℚ) → AgreeOnAll (ns ++ ms) (fs ++ gs) (ps ++ qs) → AgreeOnAll ms gs qs
  right_part ns ms fs gs ps qs h = record {
    names_agree = back SameName ns ms h.names_agree;
    functions_agree = back SameFunction fs gs h.functions_agree;
    pointers_agree = back SamePointer ps qs h.pointers_agree;
  }

  -- ---- terms
  abbrev Agrees : Term → Type 0
  Agrees t = AgreeOnAll (names_in t) (functions_in t) (numbers_in t)

  abbrev IsAlike : Term → Type 0
  IsAlike t = Agrees t → IsFormedAlike one other t

  abbrev terms : List ((t : Term) × IsAlike t) → List Term
  terms args = map (λ (e : (t : Term) × IsAlike t). e.0) args

  args_alike : (args : List ((t : Term) × IsAlike t))
      → AgreeOnAll (joined (map names_in (terms args))) (joined (map functions_in (terms args))) (joined (map numbers_in (terms args)))
      → map (forms_of one) (terms args) ≡ map (forms_of other) (terms args)
  args_alike [] h = refl
  args_alike (arg ∷ args) h =
      let first = arg.1 (left_part (names_in arg.0) (joined (map names_in (terms args))) (functions_in arg.0) (joined (map functions_in (terms args))) (numbers_in arg.0) (joined (map numbers_in (terms args))) h) in
      let rest = args_alike args (right_part (names_in arg.0) (joined (map names_in (terms args))) (functions_in arg.0) (joined (map functions_in (terms args))) (numbers_in arg.0) (joined (map numbers_in (terms args))) h) in
      λ i. first.forms i ∷ rest i

  -- one layer in both scopes
  pub record IsLayerAlike (z : Term-F Term) : Type 0 where
    pub forms : forms_step one (map-Term Term Forms (forms_of one) z) ≡ forms_step other (map-Term Term Forms (forms_of other) z)
    pub first : first_step one (map-Term Term (Option Sort) (first_sort one) z) ≡ first_step other (map-Term Term (Option Sort) (first_sort other) z)

  abbrev AgreesOnLayer : Term-F Term → Type 0
  AgreesOnLayer z = AgreeOnAll (names_step (map-Term Term (List Word) names_in z)) (functions_step (map-Term Term (List Word) functions_in z)) (numbers_step (map-Term Term (List ℚ) numbers_in z))

  both_alike : (a b : (t : Term) × IsAlike t) → AgreeOnAll (names_in a.0 ++ names_in b.0) (functions_in a.0 ++ functions_in b.0) (numbers_in a.0 ++ numbers_in b.0)
      → IsFormedAlike one other a.0 × IsFormedAlike one other b.0
  both_alike a b h = (
    a.1 (left_part (names_in a.0) (names_in b.0) (functions_in a.0) (functions_in b.0) (numbers_in a.0) (numbers_in b.0) h),
    b.1 (right_part (names_in a.0) (names_in b.0) (functions_in a.0) (functions_in b.0) (numbers_in a.0) (numbers_in b.0) h),
  )

  step_alike : (y : Term-F ((t : Term) × IsAlike t)) → let z = map-Term ((t : Term) × IsAlike t) Term (λ e. e.0) y in AgreesOnLayer z → IsLayerAlike z
  step_alike (Term-F.Number q) h =
      let same = All-head SamePointer q [] h.pointers_agree in
      record { forms = λ i. record { num = true; idx = is_whole q; ptr = same i; whole = is_whole q }; first = refl }
  step_alike Term-F.Null h = record { forms = refl; first = refl }
  step_alike (Term-F.Name name) h = let same = All-head SameName name [] h.names_agree in record { forms = ap name_forms same; first = same }
  step_alike (Term-F.Apply func args) h =
      let same = All-head SameFunction func (joined (map functions_in (terms args))) h.functions_agree in
      let parts : AgreeOnAll (joined (map names_in (terms args))) (joined (map functions_in (terms args))) (joined (map numbers_in (terms args))) = record {
        names_agree = h.names_agree;
        functions_agree = All-tail SameFunction func (joined (map functions_in (terms args))) h.functions_agree;
        pointers_agree = h.pointers_agree;
      } in
      record { forms = λ i. application_forms (args_alike args parts i) (same i); first = ap (option_map (λ (profile : Profile). profile.result)) same }
  step_alike (Term-F.Add a b) h = let p = both_alike a b h in record { forms = λ i. sum_forms (p.0.forms i) (p.1.forms i); first = λ i. option_or (p.0.first i) (p.1.first i) }
  step_alike (Term-F.Sub a b) h = let p = both_alike a b h in record { forms = λ i. difference_forms (p.0.forms i) (p.1.forms i); first = λ i. option_or (p.0.first i) (p.1.first i) }
  step_alike (Term-F.Neg a) h = let p = a.1 h in record { forms = ap negation_forms p.forms; first = p.first }
  step_alike (Term-F.Scale q a) h = let p = a.1 h in record { forms = ap multiple_forms p.forms; first = p.first }

  layer_alike : (y : Term-F ((t : Term) × IsAlike t)) → IsAlike (roll-Term (map-Term ((t : Term) × IsAlike t) Term (λ e. e.0) y))
  layer_alike y h =
      let z = map-Term ((t : Term) × IsAlike t) Term (λ e. e.0) y in
      let parts : AgreesOnLayer z = record {
        names_agree = subst (All SameName) (fold-roll-Term (List Word) names_step z) h.names_agree;
        functions_agree = subst (All SameFunction) (fold-roll-Term (List Word) functions_step z) h.functions_agree;
        pointers_agree = subst (All SamePointer) (fold-roll-Term (List ℚ) numbers_step z) h.pointers_agree;
      } in
      let alike = step_alike y parts in
      record {
        forms = fold-roll-Term Forms (forms_step one) z ∙ alike.forms ∙ sym (fold-roll-Term Forms (forms_step other) z);
        first = fold-roll-Term (Option Sort) (first_step one) z ∙ alike.first ∙ sym (fold-roll-Term (Option Sort) (first_step other) z);
      }

  alike : (t : Term) → IsAlike t
  alike t = ind-Term IsAlike (λ x y is. subst (λ z. IsAlike (roll-Term z)) is (layer_alike y)) t

  pub formed_alike : (t : Term) → AgreeOn one other t → IsFormedAlike one other t
  formed_alike t h = alike t (record { names_agree = h.names; functions_agree = h.functions; pointers_agree = h.pointers })

pub agreeing_scopes_form_alike : AgreeingScopesFormAlike
agreeing_scopes_form_alike one other term h = formed_alike one other term h

pub agreeing_scopes_sort_alike : AgreeingScopesSortAlike
agreeing_scopes_sort_alike one other atom h =
    let left = formed_alike one other atom.left h.left in
    let right = formed_alike one other atom.right h.right in
    let sort : sort_of one atom ≡ sort_of other atom = λ i. unwrap_or (option_or (left.first i) (right.first i)) Num in
    record { sort = sort; sorted = λ i. has_form (left.forms i) (sort i) && has_form (right.forms i) (sort i) && relates (sort i) atom.cmp }
