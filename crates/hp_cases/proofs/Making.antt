-- An instance of a clause of cases at an application that is there makes definitions by applications of lower functions alone.
use Rattle.std.proofs.Common.{◌≡◌, ◌∙◌, ◌⊎◌, inl, inr, ℕ, ◌≤◌, List, [], ◌∷◌, map, length, Bool, true, false, Some, Ok, refl, sym, ap, subst}
use Rattle.std.specs.Prelude.{if◌then◌else◌, slice_get}
use Rattle.std.specs.List.{All, list_all}
use Rattle.std.specs.Str.{bytes_eq}
use Rattle.std.proofs.lemmas.Bool.{and_from}
use Rattle.std.proofs.lemmas.List.Elements.{All-head}
use Rattle.hp_tree.specs.Limits.{most_arguments}
use Rattle.hp_tree.specs.declared.problem.Atom.{Atom}
use Rattle.hp_tree.specs.declared.problem.Cmp.TheVariants.{Eq}
use Rattle.hp_tree.specs.declared.problem.Sort.{Sort}
use Rattle.hp_tree.specs.declared.problem.Sort.TheVariants.{Num}
use Rattle.hp_tree.specs.declared.problem.Var.{Var}
use Rattle.hp_tree.specs.declared.term.Term.{Term, Apply}
use Rattle.hp_tree.specs.Value.{Word}
use Rattle.hp_terms.specs.Occurring.{functions_in}
use Rattle.hp_lit.specs.declared.line.Arg.{Arg}
use Rattle.hp_lit.specs.declared.line.Arg.TheVariants as arg
use Rattle.hp_defs.specs.declared.names.Ground.{Ground}
use Rattle.hp_defs.specs.declared.names.Signature.{Signature}
use Rattle.hp_defs.specs.Fit.{ArgFits}
use Rattle.hp_defs.specs.Made.{IsMade}
use Rattle.hp_defs.specs.Names.{NameList, function_words, signature_name, sorts}
use Rattle.hp_local.specs.Applied.{applies_only, atom_applies, clause_applies}
use Rattle.hp_local.specs.Substitution.{substitute, substitute_atom}
use Rattle.hp_local.proofs.Folds.{substitutes_apply_the_same}
use Rattle.hp_base.specs.Lines.{add_line}
use Rattle.hp_base.specs.Making.{Begins, Maker, ◌then◌, computed, each, keep}
use Rattle.hp_base.proofs.ArgsSteps.{gave}
use Rattle.hp_base.proofs.Growing.{came}
use Rattle.hp_base.proofs.Making.{begins_names, begins_same}
use Rattle.hp_norm.specs.declared.flat.FlatClause.{FlatClause}
use Rattle.hp_norm.specs.Flat.{universal_of}
use Rattle.hp_norm.specs.Laws.{HasOneSort, WordPasses, WordsOfAtomPass}
use Rattle.hp_norm.specs.Naming.{named, named_atom, named_atoms}
use Rattle.hp_norm.specs.Scopes.{clause_scope, term_scope}
use Rattle.hp_norm.specs.Sound.{IsSound}
use Rattle.hp_norm.proofs.AtomsNamed.{has_sides}
use Rattle.hp_norm.proofs.MakingOnly.{GrowsOnly, computed_only, line_only, only_same, only_through, then_only, value_only}
use Rattle.hp_norm.proofs.NamedWords.{same_scope}
use Rattle.hp_norm.proofs.TermsAlways.{terms_are_named}
use Rattle.hp_norm.proofs.TermsNamed.{IsNameableTerm}
use Rattle.hp_norm.proofs.TermsOnly.{terms_make_only}
use Rattle.hp_instance.specs.Instances.{at_clause, atom_sorts, instance, instance_line, sorted_literals}
use Rattle.hp_instance.specs.Laws.{ArgumentsComeBack, IsLightAt, TupleFits}
use Rattle.hp_instance.specs.Replacing.{arg_term, arg_terms, replaced_atoms, replaced_word, replacement}
use Rattle.hp_instance.proofs.Replaced.{atoms_have_one_sort}
use Rattle.hp_class.specs.Frame.{is_function, is_place}
use Rattle.hp_class.proofs.Passing.{clauses_pass}
use Rattle.hp_flatten.specs.Flattening.{argument_names}
use Rattle.hp_flatten.specs.Laws.{AreNum}
use Rattle.hp_tables.proofs.Still.{Still}
use Rattle.hp_cases.specs.declared.case.Case.{Case}
use Rattle.hp_cases.specs.Cases.{IsCaseClause, bound_term}
use Rattle.hp_cases.proofs.Applied.{lower_applies}
use Rattle.hp_cases.proofs.CaseRows.{name_applies, number_applies}
use Rattle.hp_cases.proofs.Fitting.{AreNumArgs}
use Rattle.hp_cases.proofs.Heads.{IsHead, IsOnLeft, IsOnRight, head_of}
use Rattle.hp_cases.proofs.Still.{IsThere, guard_still, terms_stay, there_later, value_at, value_still}

-- ---- arguments apply nothing
arg_applies : (test : Word → Bool) (names : NameList) (ss : List Sort) (x : Arg) → ArgFits ss Num x → applies_only test (arg_term names x) ≡ true
arg_applies test names ss (arg.Number q) h = number_applies test q
arg_applies test names ss (arg.Named name) h = name_applies test _
arg_applies test names ss (arg.Index base offset) h = absurd h
arg_applies test names ss arg.Null h = absurd h

word_applies : (test : Word → Bool) (names : NameList) (ss : List Sort) (vars : List Var) (args : List Arg) → AreNumArgs ss args → (word : Word) → applies_only test (replaced_word vars (arg_terms names args) word) ≡ true
word_applies test names ss [] args h word = name_applies test word
word_applies test names ss (v ∷ vars) [] h word = name_applies test word
word_applies test names ss (v ∷ vars) (x ∷ args) h word =
    elim (bytes_eq v.name word) as (λ b. applies_only test (if b then arg_term names x else replaced_word vars (arg_terms names args) word) ≡ true) [
      | true ↦ arg_applies test names ss x h.0
      | false ↦ word_applies test names ss vars args h.1 word
    ]

module _ (back : ArgumentsComeBack) (applied : List ℕ) where
  abbrev pub Grows : Ground → Ground → Type 0
  Grows = GrowsOnly (is_place applied)

  still_grows : {A : Type 0} (m : Maker A) (x : A) (old new : Ground) → Still m old → m old ≡ Ok (x, new) → Grows old new
  still_grows m x old new h e = subst (Grows old) (gave h.value x old new (sym h.is ∙ e)).ground (only_same (is_place applied) old)

  module _ (func : ℕ) (s : Signature) (nums : AreNum s.args) (count : ℕ) (few : count ≤ most_arguments) (cases : List Case) (c : FlatClause) (xs : List Arg) (counted : length xs ≡ count)
      (old : Ground) (sound : IsSound old) (known : slice_get old.names.signatures func ≡ Some s) (of : IsCaseClause old.names s.name count cases applied c) (fits : TupleFits old.names c xs)
      (there : IsThere old func s xs) where
    abbrev ρ : Word → Term
    ρ = replacement old.names c.vars xs

    abbrev test : Word → Bool
    test = is_function old.names applied

    abbrev words : List Word
    words = function_words old.names

    -- ---- the function
    stands : substitute ρ (Apply s.name (argument_names count)) ≡ Apply s.name (arg_terms old.names xs)
    stands =
        subst (λ (vs : List Var). substitute (replacement old.names vs xs) (Apply s.name (argument_names count)) ≡ Apply s.name (arg_terms old.names xs)) (sym of.vars)
        (value_at old.names count few xs counted s.name)

    -- at the arguments it has its name, also later on
    function_still : (mid : Ground) → Begins old mid → IsMade mid.names → (t : Term) → t ≡ Apply s.name (argument_names count) → Still (named c.item (substitute ρ t)) mid
    function_still mid b made t is =
        let known_now : slice_get mid.names.signatures func ≡ Some s = ap (λ (ss : List Signature). slice_get ss func) b.signatures ∙ known in
        let same = ap (substitute ρ) is ∙ stands ∙ ap (λ ts. Apply s.name ts) (sym (terms_stay old.names mid.names (begins_names old mid b) xs there.fits)) in
        subst (λ (z : Term). Still (named c.item z) mid) (sym same) (value_still back c.item mid made func s known_now nums xs (there_later old mid func s xs b nums there))

    -- ---- the bound
    bound_applies : applies_only test (substitute ρ (bound_term of.bound)) ≡ true
    bound_applies =
        substitutes_apply_the_same test ρ (word_applies test old.names (sorts old.names) c.vars xs there.fits) (bound_term of.bound) ∙ lower_applies test (bound_term of.bound) of.lower

    bound_passes : All (WordPasses (is_place applied) words) (functions_in (substitute ρ (bound_term of.bound)))
    bound_passes =
        let t = substitute ρ (bound_term of.bound) in
        let atom : Atom = record { left = t; cmp = Eq; right = t } in
        let alone : FlatClause = record c { guard = []; head = atom ∷ [] } in
        let all : clause_applies test (universal_of alone) ≡ true =
        and_from true (list_all (atom_applies test) (atom ∷ [])) refl
        (and_from (atom_applies test atom) true (and_from (applies_only test t) (applies_only test t) bound_applies bound_applies) refl) in
        (All-head (WordsOfAtomPass (is_place applied) words) atom [] (clauses_pass old.names applied alone sound.made all).head).left

    bound_grows : (t : Term) → bound_term of.bound ≡ t → (x : Term) (from new : Ground) → Begins old from → named c.item (substitute ρ t) from ≡ Ok (x, new) → Grows from new
    bound_grows t is x from new b e =
        terms_make_only (is_place applied) words c.item (substitute ρ t)
        (subst (λ (z : Term). All (WordPasses (is_place applied) words) (functions_in (substitute ρ z))) is bound_passes) from new x
        (ap (λ (ss : List Signature). map signature_name ss) b.signatures) e

    -- ---- the head
    abbrev head : IsHead s.name count c.head of.bound
    head = head_of s.name count c.head of.bound of.head of.value

    abbrev atom_at : Atom
    atom_at = substitute_atom ρ head.atom

    left_able : IsNameableTerm (term_scope old.names) (substitute ρ head.atom.left)
    left_able =
        let outer = term_scope old.names in
        let all = subst (λ (atoms : List Atom). All (HasOneSort outer) (replaced_atoms old.names c.vars xs atoms)) head.head_is
        (atoms_have_one_sort old.names c.vars xs fits.sorted sound.made c.head of.flat.head) in
        let one = All-head (HasOneSort outer) atom_at [] all in
        let light = All-head (IsLightAt old.names c xs) head.atom [] (subst (λ (atoms : List Atom). All (IsLightAt old.names c xs) atoms) head.head_is fits.head) in
        record { sorted = record { sort = one.0; is = (has_sides outer one.0 atom_at one.1).left }; light = light.inner.left }

    atom_grows : (flat : Atom) (new : Ground) → named_atom c.item atom_at old ≡ Ok (flat, new) → IsOnLeft s.name count head.atom of.bound ⊎ IsOnRight s.name count head.atom of.bound → Grows old new
    atom_grows flat new e (inl h) =
        let one = came (named c.item (substitute ρ head.atom.left) old)
        (λ left. λ mid. named c.item (substitute ρ head.atom.right) mid then λ right. keep (record { left = left; cmp = head.atom.cmp; right = right })) flat new e in
        let first = still_grows (named c.item (substitute ρ head.atom.left)) one.value old one.mid (function_still old (begins_same old) sound.made head.atom.left h.left) one.first in
        let two = came (named c.item (substitute ρ head.atom.right) one.mid) (λ right. keep (record { left = one.value; cmp = head.atom.cmp; right = right })) flat new one.rest in
        let second = bound_grows head.atom.right h.other two.value one.mid two.mid first.begins two.first in
        only_through (is_place applied) old one.mid new first
        (only_through (is_place applied) one.mid two.mid new second (value_only (is_place applied) (record { left = one.value; cmp = head.atom.cmp; right = two.value }) two.mid new flat two.rest))
    atom_grows flat new e (inr h) =
        let one = came (named c.item (substitute ρ head.atom.left) old)
        (λ left. λ mid. named c.item (substitute ρ head.atom.right) mid then λ right. keep (record { left = left; cmp = head.atom.cmp; right = right })) flat new e in
        let first = bound_grows head.atom.left h.other one.value old one.mid (begins_same old) one.first in
        let over = (terms_are_named (term_scope old.names) c.item (substitute ρ head.atom.left) one.value old one.mid left_able (record { sound = sound; wider = same_scope (term_scope old.names) }) one.first).over in
        let two = came (named c.item (substitute ρ head.atom.right) one.mid) (λ right. keep (record { left = one.value; cmp = head.atom.cmp; right = right })) flat new one.rest in
        let second = still_grows (named c.item (substitute ρ head.atom.right)) two.value one.mid two.mid
        (function_still one.mid first.begins over.sound.made head.atom.right h.right) two.first in
        only_through (is_place applied) old one.mid new first
        (only_through (is_place applied) one.mid two.mid new second (value_only (is_place applied) (record { left = one.value; cmp = head.atom.cmp; right = two.value }) two.mid new flat two.rest))

    head_grows : (flats : List Atom) (new : Ground) → named_atoms c.item (replaced_atoms old.names c.vars xs c.head) old ≡ Ok (flats, new) → Grows old new
    head_grows flats new e =
        let here = subst (λ (atoms : List Atom). named_atoms c.item (replaced_atoms old.names c.vars xs atoms) old ≡ Ok (flats, new)) head.head_is e in
        let one = came (named_atom c.item atom_at old) (λ y. λ mid. each (named_atom c.item) [] mid then λ ys. λ end. Ok (y ∷ ys, end)) flats new here in
        only_through (is_place applied) old one.mid new (atom_grows one.value one.mid one.first head.side) (value_only (is_place applied) (one.value ∷ []) one.mid new flats one.rest)

    -- ---- the line
    pub instance_grows : (shown : List Arg) (done : Unit {0}) (new : Ground) → instance c (record { args = xs; shown = shown }) old ≡ Ok (done, new) → Grows old new
    instance_grows shown done new e =
        let replaced = replaced_atoms old.names c.vars xs in
        let guard : Still (named_atoms c.item (replaced c.guard)) old =
        subst (λ (vs : List Var). Still (named_atoms c.item (replaced_atoms old.names vs xs c.guard)) old) (sym of.vars) (guard_still old.names count few xs counted c.item old there.fits c.guard of.bare) in
        let one = came (named_atoms c.item (replaced c.guard) old) (λ g. λ mid. named_atoms c.item (replaced c.head) mid then λ h. instance_line c shown old.names g h) done new e in
        let same = (gave guard.value one.value old one.mid (sym guard.is ∙ one.first)).ground in
        let two = came (named_atoms c.item (replaced c.head) one.mid) (λ h. instance_line c shown old.names one.value h) done new one.rest in
        let first = head_grows two.value two.mid (subst (λ (g : Ground). named_atoms c.item (replaced c.head) g ≡ Ok (two.value, two.mid)) (sym same) two.first) in
        let lits = sorted_literals two.mid.names (atom_sorts (clause_scope old.names c.vars) c.guard) one.value (atom_sorts (clause_scope old.names c.vars) c.head) two.value in
        only_through (is_place applied) old two.mid new first
        (then_only (is_place applied) (computed c.item lits) (λ ls. add_line (at_clause c.clause shown ls)) (computed_only (is_place applied) c.item lits) (λ ls. line_only (is_place applied) (at_clause c.clause shown ls))
        two.mid new done two.rest)
