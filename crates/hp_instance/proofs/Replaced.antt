-- Terms with arguments in the places of variables: they have the sorts that they had in the clause, and their values.
use Rattle.std.proofs.Common.{◌≡◌, List, [], ◌∷◌, map, Bool, true, false, ◌&&◌, Option, Some, None, refl, sym, subst}
use Rattle.std.specs.Prelude.{if◌then◌else◌}
use Rattle.std.specs.Str.{bytes_eq}
use Rattle.std.specs.List.{All, AllZip}
use Rattle.std.specs.Option.{option_or}
use Rattle.std.proofs.lemmas.Bool.{and_from, and_parts}
use Rattle.std.proofs.lemmas.List.Elements.{All-nil, All-cons, All-head, All-tail}
use Rattle.hp_tree.specs.declared.term.Term.{Term, fold-roll-Term, roll-Term, map-Term}
use Rattle.hp_tree.specs.declared.term.Term.TheOpen.{Term-F}
use Rattle.hp_tree.specs.declared.problem.Sort.{Sort}
use Rattle.hp_tree.specs.declared.problem.Var.{Var}
use Rattle.hp_tree.specs.declared.problem.Atom.{Atom}
use Rattle.hp_tree.specs.Value.{Word, Environment, Functions, atom_is_true, compares, value}
use Rattle.hp_tree.specs.Universal.{assign}
use Rattle.hp_terms.specs.declared.forms.Forms.{Forms}
use Rattle.hp_terms.specs.Scope.{Profile, Scope}
use Rattle.hp_terms.specs.Sorting.{application_forms, fit, forms_of, forms_step, has_form, is_sorted, name_forms, no_forms, relates, sort_forms, sort_of}
use Rattle.hp_index.proofs.Layers.{Parts, bare, by_layers}
use Rattle.hp_lit.specs.declared.line.Arg.{Arg}
use Rattle.hp_lit.specs.Truth.{Values}
use Rattle.hp_lit.specs.Words.{Agrees}
use Rattle.hp_defs.specs.Names.{NameList, sorts, words}
use Rattle.hp_defs.specs.Fit.{ArgFits}
use Rattle.hp_defs.specs.Made.{IsMade}
use Rattle.hp_base.specs.Lines.{flat_scope}
use Rattle.hp_base.specs.Values.{arg_value, arg_values}
use Rattle.hp_local.specs.Substitution.{substitute, substitute_atom, substitute_step}
use Rattle.hp_local.proofs.Folds.{substitutes_keep_values}
use Rattle.hp_local.proofs.Terms as terms
use Rattle.hp_norm.specs.Scopes.{clause_scope, function_profile, term_scope, variable_sort}
use Rattle.hp_norm.specs.Laws.{HasOneSort}
use Rattle.hp_norm.proofs.FormsKept.{KeepsForms, difference_kept, multiple_kept, negation_kept, nothing_kept, same_kept, sum_kept}
use Rattle.hp_norm.proofs.AtomsNamed.{IsSortedIn, has_sides}
use Rattle.hp_instance.specs.Replacing.{IsKnownArg, arg_term, arg_terms, replaced_atoms, replaced_word, replacement}
use Rattle.hp_instance.proofs.ArgTerms.{arg_has_value, arg_keeps, arg_known, name_is}

abbrev pub HasSortOf : NameList → Var → Arg → Type 0
HasSortOf names var x = ArgFits (sorts names) var.sort x

pub args_known : (names : NameList) (vars : List Var) (args : List Arg) → AllZip (HasSortOf names) vars args → All (IsKnownArg names) args
args_known names [] [] h = All-nil (IsKnownArg names)
args_known names [] (x ∷ args) h = absurd h
args_known names (v ∷ vars) [] h = absurd h
args_known names (v ∷ vars) (x ∷ args) h = All-cons (IsKnownArg names) x args (arg_known names v.sort x h.0) (args_known names vars args h.1)

-- ---- arguments that keep their forms
-- more forms fit where these do
fits_kept : (fs gs : List Forms) (places : List Sort) → AllZip KeepsForms fs gs → fit fs places ≡ true → fit gs places ≡ true
fits_kept [] [] [] keeps e = refl
fits_kept [] [] (place ∷ places) keeps e = absurd (cc)
fits_kept [] (g ∷ gs) places keeps e = absurd keeps
fits_kept (f ∷ fs) [] places keeps e = absurd keeps
fits_kept (f ∷ fs) (g ∷ gs) [] keeps e = absurd (cc)
fits_kept (f ∷ fs) (g ∷ gs) (place ∷ places) keeps e =
    let h = and_parts (has_form f place) (fit fs places) e in
    and_from (has_form g place) (fit gs places) (keeps.0.sorts place h.0) (fits_kept fs gs places keeps.1 h.1)

result_of : (b c : Bool) (sort : Sort) → (b ≡ true → c ≡ true) → KeepsForms (if b then sort_forms sort else no_forms) (if c then sort_forms sort else no_forms)
result_of true true sort h = same_kept (sort_forms sort)
result_of true false sort h = absurd (let e : false ≡ true = h refl in cc)
result_of false true sort h = nothing_kept (sort_forms sort)
result_of false false sort h = same_kept no_forms

application_kept : (fs gs : List Forms) (profile : Option Profile) → AllZip KeepsForms fs gs → KeepsForms (application_forms fs profile) (application_forms gs profile)
application_kept fs gs None keeps = same_kept no_forms
application_kept fs gs (Some profile) keeps = result_of (fit fs profile.args) (fit gs profile.args) profile.result (fits_kept fs gs profile.args keeps)

module _ (names : NameList) (vars : List Var) (args : List Arg) (fits : AllZip (HasSortOf names) vars args) where
  abbrev replace : Word → Term
  replace = replacement names vars args

  abbrev inner : Scope
  inner = clause_scope names vars

  abbrev outer : Scope
  outer = term_scope names

  -- ---- values
  module _ (v : Values) (env : Environment) (functions : Functions) (agrees : Agrees (words names) v env) where
    word_values : (vs : List Var) (xs : List Arg) → AllZip (HasSortOf names) vs xs → (word : Word)
        → value env functions (replaced_word vs (arg_terms names xs) word) ≡ assign vs (arg_values v xs) env word
    word_values [] [] h word = terms.name_value env functions word
    word_values [] (x ∷ xs) h word = absurd h
    word_values (u ∷ vs) [] h word = absurd h
    word_values (u ∷ vs) (x ∷ xs) h word =
        elim (bytes_eq u.name word) as (λ (b : Bool). value env functions (if b then arg_term names x else replaced_word vs (arg_terms names xs) word) ≡ (if b then arg_value v x else assign vs (arg_values v xs) env word)) [
          | true ↦ arg_has_value names v env functions agrees u.sort x h.0
          | false ↦ word_values vs xs h.1 word
        ]

    abbrev pub at_values : Environment
    at_values = assign vars (arg_values v args) env

    term_keeps_value : (term : Term) → value env functions (substitute replace term) ≡ value at_values functions term
    term_keeps_value term = substitutes_keep_values env at_values functions replace (word_values vars args fits) term

    pub atom_keeps_truth : (atom : Atom) → atom_is_true env functions (substitute_atom replace atom) ≡ atom_is_true at_values functions atom
    atom_keeps_truth atom = λ i. compares atom.cmp (term_keeps_value atom.left i) (term_keeps_value atom.right i)

  -- ---- sorts
  module _ (made : IsMade names) where
    word_keeps : (vs : List Var) (xs : List Arg) → AllZip (HasSortOf names) vs xs → (word : Word)
        → KeepsForms (name_forms (option_or (variable_sort vs word) ((flat_scope names).name word))) (forms_of outer (replaced_word vs (arg_terms names xs) word))
    word_keeps [] [] h word = subst (KeepsForms (name_forms ((flat_scope names).name word))) (sym (name_is outer word)) (same_kept (name_forms ((flat_scope names).name word)))
    word_keeps [] (x ∷ xs) h word = absurd h
    word_keeps (u ∷ vs) [] h word = absurd h
    word_keeps (u ∷ vs) (x ∷ xs) h word =
        elim (bytes_eq u.name word) as (λ (b : Bool). KeepsForms (name_forms (option_or (if b then Some u.sort else variable_sort vs word) ((flat_scope names).name word))) (forms_of outer (if b then arg_term names x else replaced_word vs (arg_terms names xs) word))) [
          | true ↦ arg_keeps names made u.sort x h.0
          | false ↦ word_keeps vs xs h.1 word
        ]

    abbrev Kept : Term → Type 0
    Kept term = KeepsForms (forms_of inner term) (forms_of outer (substitute replace term))

    abbrev Part : Type 0
    Part = Parts Kept

    parts_kept : (ts : List Part) → AllZip KeepsForms (map (forms_of inner) (map (λ (e : Part). e.0) ts)) (map (forms_of outer) (map (substitute replace) (map (λ (e : Part). e.0) ts)))
    parts_kept [] = tt
    parts_kept (t ∷ ts) = (t.1, parts_kept ts)

    abbrev put : Term-F Term → Term-F Term
    put = map-Term Term Term (substitute replace)

    abbrev forms_at : Scope → Term-F Term → Forms
    forms_at scope z = forms_step scope (map-Term Term Forms (forms_of scope) z)

    rolled : (z : Term-F Term) (f : Forms) → KeepsForms f (forms_at outer z) → KeepsForms f (forms_of outer (roll-Term z))
    rolled z f h = subst (KeepsForms f) (sym (fold-roll-Term Forms (forms_step outer) z)) h

    step_kept : (y : Term-F Part) → KeepsForms (forms_at inner (bare Kept y)) (forms_of outer (substitute_step replace (put (bare Kept y))))
    step_kept (Term-F.Number q) = rolled (Term-F.Number q) _ (same_kept _)
    step_kept Term-F.Null = rolled Term-F.Null _ (same_kept _)
    step_kept (Term-F.Name word) = word_keeps vars args fits word
    step_kept (Term-F.Apply func ts) =
        rolled (Term-F.Apply func (map (substitute replace) (map (λ (e : Part). e.0) ts))) _ (application_kept _ _ (function_profile names func) (parts_kept ts))
    step_kept (Term-F.Add a b) = rolled (Term-F.Add (substitute replace a.0) (substitute replace b.0)) _ (sum_kept _ _ _ _ a.1 b.1)
    step_kept (Term-F.Sub a b) = rolled (Term-F.Sub (substitute replace a.0) (substitute replace b.0)) _ (difference_kept _ _ _ _ a.1 b.1)
    step_kept (Term-F.Neg a) = rolled (Term-F.Neg (substitute replace a.0)) _ (negation_kept _ _ a.1)
    step_kept (Term-F.Scale q a) = rolled (Term-F.Scale q (substitute replace a.0)) _ (multiple_kept _ _ a.1)

    layer_kept : (y : Term-F Part) → Kept (roll-Term (bare Kept y))
    layer_kept y =
        let z = bare Kept y in
        subst (λ (t : Term). KeepsForms (forms_of inner (roll-Term z)) (forms_of outer t)) (sym (fold-roll-Term Term (substitute_step replace) z))
        (subst (λ (f : Forms). KeepsForms f (forms_of outer (substitute_step replace (put z)))) (sym (fold-roll-Term Forms (forms_step inner) z)) (step_kept y))

    term_kept : (term : Term) → Kept term
    term_kept term = by_layers Kept layer_kept term

    -- an atom of a sort in the clause is one of that sort
    pub atom_keeps_sort : (sort : Sort) (atom : Atom) → is_sorted inner sort atom ≡ true → is_sorted outer sort (substitute_atom replace atom) ≡ true
    atom_keeps_sort sort atom e =
        let h = has_sides inner sort atom e in
        let left = (term_kept atom.left).sorts sort h.left in
        let right = (term_kept atom.right).sorts sort h.right in
        let forms = λ (t : Term). has_form (forms_of outer (substitute replace t)) sort in
        and_from (forms atom.left && forms atom.right) (relates sort atom.cmp) (and_from (forms atom.left) (forms atom.right) left right) h.related

    pub atoms_have_one_sort : (atoms : List Atom) → All (IsSortedIn inner) atoms → All (HasOneSort outer) (replaced_atoms names vars args atoms)
    atoms_have_one_sort [] h = All-nil (HasOneSort outer)
    atoms_have_one_sort (atom ∷ atoms) h =
        All-cons (HasOneSort outer) (substitute_atom replace atom) (replaced_atoms names vars args atoms)
        (sort_of inner atom, atom_keeps_sort (sort_of inner atom) atom (All-head (IsSortedIn inner) atom atoms h))
        (atoms_have_one_sort atoms (All-tail (IsSortedIn inner) atom atoms h))
