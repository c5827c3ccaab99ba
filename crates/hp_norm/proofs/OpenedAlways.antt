-- Each term of a clause with variables, of a sort and light, keeps its forms and its value while it is opened.
use Rattle.std.proofs.Common.{◌≡◌, ℕ, ◌≤◌, Bool, true, false, List, [], ◌∷◌, map, Option, Some, Ok, refl, sym, ap, subst, ◌∙◌, arith}
use Rattle.std.specs.Prelude.{if◌then◌else◌, option_map}
use Rattle.std.specs.List.{All, AllZip}
use Rattle.std.proofs.lemmas.Bool.{and_from}
use Rattle.std.proofs.lemmas.List.Elements.{All-head, All-tail}
use Rattle.hp_tree.specs.declared.term.Term.{Term, Number, Null, Name, Apply, Add, Sub, Neg, Scale, fold-roll-Term, roll-Term, map-Term}
use Rattle.hp_tree.specs.declared.term.Term.TheOpen.{Term-F}
use Rattle.hp_tree.specs.declared.term.Term.TheVariants.{rolls-Number, rolls-Null, rolls-Name, rolls-Apply, rolls-Add, rolls-Sub, rolls-Neg, rolls-Scale}
use Rattle.hp_tree.specs.declared.problem.Sort.{Sort}
use Rattle.hp_tree.specs.declared.problem.Var.{Var}
use Rattle.hp_tree.specs.Value.{Environment, Functions, Word, value}
use Rattle.hp_terms.specs.Scope.{Profile, Scope}
use Rattle.hp_terms.specs.Sorting.{application_forms, fit, forms_of, has_form, no_forms, sort_forms}
use Rattle.hp_terms.specs.Weight.{weight, weight_step, weights}
use Rattle.hp_terms.specs.Laws.{parts_of}
use Rattle.hp_terms.proofs.Parts.{applications_follow_profiles, parts_of_sorted_terms_are_sorted}
use Rattle.hp_index.proofs.Layers.{Parts, bare, by_layers}
use Rattle.hp_lit.specs.Truth.{Values}
use Rattle.hp_defs.specs.declared.names.Ground.{Ground}
use Rattle.hp_base.specs.Making.{Maker, ◌then◌, each, keep}
use Rattle.hp_base.proofs.ArgsSteps.{gave}
use Rattle.hp_base.proofs.Growing.{came}
use Rattle.hp_norm.specs.Opening.{mentions, opened, opened_application, opening_step, run}
use Rattle.hp_norm.specs.Scopes.{clause_scope, function_profile}
use Rattle.hp_norm.specs.Sound.{AreValues, Grew, IsLater}
use Rattle.hp_norm.proofs.ClauseScopes.{clause_grows}
use Rattle.hp_norm.proofs.FormsKept.{KeepsForms, result_kept}
use Rattle.hp_norm.proofs.GroundsGrew.{grew_same, grew_through}
use Rattle.hp_norm.proofs.Loads.{parts_have_no_more}
use Rattle.hp_norm.proofs.OpenedKept.{IsClauseOver, closed_opened, in_clause}
use Rattle.hp_norm.proofs.Seeing.{by_term_roll}
use Rattle.hp_norm.proofs.TermsKept.{IsKept, IsKeptLayer, Reading, kept_layer, kept_longer}
use Rattle.hp_norm.proofs.TermsNamed.{IsMadeAlways, IsNameableTerm, IsNamed, differences_keep, leaf_named, multiples_keep, named_to, negations_keep, null_keeps, number_keeps, one_named, sums_keep, two_named, word_keeps}

module _ (scope : Scope) (vars : List Var) (item : ℕ) where
  abbrev reading : Reading
  reading = in_clause scope vars

  abbrev Holds : Term → Type 0
  Holds term = IsMadeAlways reading (opened vars item term) term

  abbrev terms : List (Parts Holds) → List Term
  terms args = map (λ (e : Parts Holds). e.0) args

  able_parts : (z : Term-F Term) → IsNameableTerm scope (roll-Term z) → All (IsNameableTerm scope) (parts_of z)
  able_parts z able =
      let sorted = parts_of_sorted_terms_are_sorted scope z able.sorted in
      let less = parts_have_no_more scope z in
      λ k d within. record { sorted = sorted k d within; light = (let m = less k d within in let n = able.light in omega (arith, m, n)) }

  -- ---- arguments
  abbrev AreOfSorts : List Term → List Sort → Type 0
  AreOfSorts args places = AllZip (λ arg place. has_form (forms_of scope arg) place ≡ true) args places

  record WereOpened (args flats : List Term) (before after : Ground) : Type 0 where
    grew : Grew before after
    over : IsClauseOver scope vars after
    fits : (end : Ground) (places : List Sort) → IsLater after end → AreOfSorts args places → fit (map (forms_of (clause_scope end.names vars)) flats) places ≡ true
    light : weights (map weight flats) ≤ weights (map weight args)
    same : (end : Ground) (v : Values) (env : Environment) (functions : Functions) → IsLater after end → AreValues end v env functions → map (value env functions) flats ≡ map (value env functions) args

  were_to : (args flats now : List Term) (before mid after : Ground) → flats ≡ now → mid ≡ after → WereOpened args flats before mid → WereOpened args now before after
  were_to args flats now before mid after e f h = subst (λ (fs : List Term). WereOpened args fs before after) e (subst (λ (g : Ground). WereOpened args flats before g) f h)

  no_places : (places : List Sort) → AreOfSorts [] places → fit [] places ≡ true
  no_places [] h = refl
  no_places (place ∷ places) h = absurd h

  more_places : (arg flat : Term) (args flats : List Term) (places : List Sort) (now : Scope) → KeepsForms (forms_of scope arg) (forms_of now flat)
      → ((ps : List Sort) → AreOfSorts args ps → fit (map (forms_of now) flats) ps ≡ true) → AreOfSorts (arg ∷ args) places → fit (map (forms_of now) (flat ∷ flats)) places ≡ true
  more_places arg flat args flats [] now keeps rest h = absurd h
  more_places arg flat args flats (place ∷ places) now keeps rest h =
      and_from (has_form (forms_of now flat) place) (fit (map (forms_of now) flats) places) (keeps.sorts place h.0) (rest places h.1)

  args_opened : (args : List (Parts Holds)) (flats : List Term) (before after : Ground) → All (IsNameableTerm scope) (terms args) → IsClauseOver scope vars before
      → each run (map (opened vars item) (terms args)) before ≡ Ok (flats, after) → WereOpened (terms args) flats before after
  args_opened [] flats before after able over e =
      let g = gave [] flats before after e in
      were_to [] [] flats before before after g.value g.ground
      (record { grew = grew_same before; over = over; fits = λ end places l h. no_places places h; light = omega arith; same = λ end v env functions l values. refl })
  args_opened (arg ∷ args) flats before after able over e =
      let more = map (opened vars item) (terms args) in
      let s = came (opened vars item arg.0 before) (λ y. λ mid. each run more mid then λ ys. λ end. Ok (y ∷ ys, end)) flats after e in
      let one = arg.1 s.value before s.mid (All-head (IsNameableTerm scope) arg.0 (terms args) able) over s.first in
      let t = came (each run more s.mid) (λ ys. λ end. Ok (s.value ∷ ys, end)) flats after s.rest in
      let rest = args_opened args t.value s.mid t.mid (All-tail (IsNameableTerm scope) arg.0 (terms args) able) one.over t.first in
      let g = gave (s.value ∷ t.value) flats t.mid after t.rest in
      let first = kept_longer reading s.mid t.mid arg.0 s.value rest.grew.begins one.kept in
      let less = first.light in
      let fewer = rest.light in
      were_to (arg.0 ∷ terms args) (s.value ∷ t.value) flats before t.mid after g.value g.ground
      (record {
        grew = grew_through before s.mid t.mid one.grew rest.grew;
        over = rest.over;
        fits = λ end places l h. more_places arg.0 s.value (terms args) t.value places (clause_scope end.names vars) (first.forms end l) (λ ps. rest.fits end ps l) h;
        light = omega (arith, less, fewer);
        same = λ end v env functions l values. (λ i. first.same end v env functions l values i ∷ rest.same end v env functions l values i);
      })

  -- ---- applications
  result_fits : (b c : Bool) (sort : Sort) → c ≡ true → KeepsForms (if b then sort_forms sort else no_forms) (if c then sort_forms sort else no_forms)
  result_fits b c sort e = subst (λ d. KeepsForms (if b then sort_forms sort else no_forms) (if d then sort_forms sort else no_forms)) (sym e) (result_kept b sort)

  application_opened : (func : Word) (args flats : List Term) (before after : Ground) → IsNameableTerm scope (roll-Term (Term-F.Apply func args)) → WereOpened args flats before after
      → IsKeptLayer reading after (Term-F.Apply func args) (Term-F.Apply func flats)
  application_opened func args flats before after able h =
      let follows = applications_follow_profiles scope func args able.sorted.sort able.sorted.is in
      let profile = follows.profile in
      let formed = map (forms_of scope) args in
      let there = λ (end : Ground) (l : IsLater after end). (clause_grows vars scope after end l.begins l.made h.over.wider).functions func profile follows.known in
      record {
        forms = λ end l.
            let now = map (forms_of (clause_scope end.names vars)) flats in
            subst (λ (o : Option Profile). KeepsForms (application_forms formed o) (application_forms now (function_profile end.names func))) (sym follows.known)
            (subst (λ (o : Option Profile). KeepsForms (application_forms formed (Some profile)) (application_forms now o)) (sym (there end l))
            (result_fits (fit formed profile.args) (fit now profile.args) profile.result (h.fits end profile.args l follows.each)));
        first = λ end l. ap (option_map (λ (q : Profile). q.result)) (follows.known ∙ sym (there end l));
        light = subst (λ n. weights (map weight flats) ≤ n) (sym (fold-roll-Term ℕ weight_step (Term-F.Apply func args))) h.light;
        same = λ end v env functions l values. ap (functions func) (h.same end v env functions l values);
      }

  apply_opened : (func : Word) (args : List (Parts Holds)) (b : Bool) (flat : Term) (before after : Ground) → let z : Term-F Term = Term-F.Apply func (terms args) in mentions vars (roll-Term z) ≡ b
      → IsNameableTerm scope (roll-Term z) → IsClauseOver scope vars before → opened_application item b (roll-Term z) func (map (opened vars item) (terms args)) before ≡ Ok (flat, after)
      → IsNamed reading (roll-Term z) flat before after
  apply_opened func args true flat before after m able over e =
      let z : Term-F Term = Term-F.Apply func (terms args) in
      let s = came (each run (map (opened vars item) (terms args)) before) (λ xs. keep (Apply func xs)) flat after e in
      let h = args_opened args s.value before s.mid (able_parts z able) over s.first in
      let g = gave (Apply func s.value) flat s.mid after s.rest in
      let w : Term-F Term = Term-F.Apply func s.value in
      named_to reading (roll-Term z) (roll-Term w) (Apply func s.value) flat before s.mid after (rolls-Apply func s.value) g.value g.ground
      (record { grew = h.grew; over = h.over; kept = kept_layer reading s.mid z w (application_opened func (terms args) s.value before s.mid able h) })
  apply_opened func args false flat before after m able over e = closed_opened scope vars item (roll-Term (Term-F.Apply func (terms args))) flat before after able m over e

  -- ---- terms
  leaf_opened : (z : Term-F Term) (own flat : Term) (before after : Ground) → roll-Term z ≡ own → IsKeptLayer reading before z z → IsClauseOver scope vars before → keep own before ≡ Ok (flat, after)
      → IsNamed reading (roll-Term z) flat before after
  leaf_opened z own flat before after rolls keeps over e =
      leaf_named reading (roll-Term z) own flat before after over (subst (IsKept reading before (roll-Term z)) rolls (kept_layer reading before z z keeps)) e

  step_opened : (y : Term-F (Parts Holds)) (flat : Term) (before after : Ground) → IsNameableTerm scope (roll-Term (bare Holds y)) → IsClauseOver scope vars before
      → opening_step vars item (roll-Term (bare Holds y)) (map-Term Term (Maker Term) (opened vars item) (bare Holds y)) before ≡ Ok (flat, after)
      → IsNamed reading (roll-Term (bare Holds y)) flat before after
  step_opened (Term-F.Number q) flat before after able over e =
      leaf_opened (Term-F.Number q) (Number q) flat before after (rolls-Number q) (number_keeps reading q before (λ names. over.wider.pointers q)) over e
  step_opened Term-F.Null flat before after able over e = leaf_opened Term-F.Null Null flat before after rolls-Null (null_keeps reading before) over e
  step_opened (Term-F.Name word) flat before after able over e =
      leaf_opened (Term-F.Name word) (Name word) flat before after (rolls-Name word)
      (word_keeps reading word before able.sorted (λ end sort l. (clause_grows vars scope before end l.begins l.made over.wider).names word sort)) over e
  step_opened (Term-F.Apply func args) flat before after able over e =
      apply_opened func args (mentions vars (roll-Term (Term-F.Apply func (terms args)))) flat before after refl able over e
  step_opened (Term-F.Add a b) flat before after able over e =
      let parts = able_parts (Term-F.Add a.0 b.0) able in
      let rest = All-tail (IsNameableTerm scope) a.0 (b.0 ∷ []) parts in
      two_named reading Add Term-F.Add rolls-Add (sums_keep reading) (opened vars item a.0) (opened vars item b.0) a.0 b.0 flat before after a.1 b.1
      (All-head (IsNameableTerm scope) a.0 (b.0 ∷ []) parts) (All-head (IsNameableTerm scope) b.0 [] rest) over e
  step_opened (Term-F.Sub a b) flat before after able over e =
      let parts = able_parts (Term-F.Sub a.0 b.0) able in
      let rest = All-tail (IsNameableTerm scope) a.0 (b.0 ∷ []) parts in
      two_named reading Sub Term-F.Sub rolls-Sub (differences_keep reading) (opened vars item a.0) (opened vars item b.0) a.0 b.0 flat before after a.1 b.1
      (All-head (IsNameableTerm scope) a.0 (b.0 ∷ []) parts) (All-head (IsNameableTerm scope) b.0 [] rest) over e
  step_opened (Term-F.Neg a) flat before after able over e =
      one_named reading Neg Term-F.Neg rolls-Neg (negations_keep reading) (opened vars item a.0) a.0 flat before after a.1
      (All-head (IsNameableTerm scope) a.0 [] (able_parts (Term-F.Neg a.0) able)) over e
  step_opened (Term-F.Scale q a) flat before after able over e =
      one_named reading (Scale q) (Term-F.Scale q) (rolls-Scale q) (multiples_keep reading q) (opened vars item a.0) a.0 flat before after a.1
      (All-head (IsNameableTerm scope) a.0 [] (able_parts (Term-F.Scale q a.0) able)) over e

  pub terms_are_opened : (term : Term) → IsMadeAlways reading (opened vars item term) term
  terms_are_opened term = by_layers Holds (λ y flat before after able over e.
      step_opened y flat before after able over (sym (ap (λ (m : Maker Term). m before) (by_term_roll (opening_step vars item) (bare Holds y))) ∙ e)) term
