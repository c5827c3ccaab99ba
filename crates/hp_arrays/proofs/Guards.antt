-- The clauses of arrays over values: a guard stays true where each index goes to the nearest one of the set, or is fine, and heads are fine.
use Rattle.std.proofs.Common.{◌≡◌, ◌∙◌, inl, inr, ℕ, ◌<◌, neg_ℤ, List, [], ◌∷◌, ◌++◌, map, length, Bool, true, false, ◌&&◌, ◌||◌, not, nat_lt, Option, Some, None, refl, sym, ap, subst, arith}
use Rattle.std.specs.List.{All, Contains, flat_map, list_all}
use Rattle.std.proofs.lemmas.Bool.{and_from, and_parts, ltb-true, or_parts}
use Rattle.std.proofs.lemmas.List.{length-append, length-map}
use Rattle.std.proofs.lemmas.List.Elements.{All-cons, All-contains, All-head, All-map, All-nil, All-tail, Contains-append_cases}
use Rattle.std.proofs.lemmas.Option.{slice_get_within}
use Rattle.hp_math.specs.Rational.{ℚ, ◌+ℚ◌, is_whole, whole}
use Rattle.hp_tree.specs.declared.term.Term.{Term}
use Rattle.hp_tree.specs.declared.problem.Atom.{Atom}
use Rattle.hp_tree.specs.declared.problem.Sort.{Sort}
use Rattle.hp_tree.specs.declared.problem.Sort.TheVariants.{Num, Idx, Ptr}
use Rattle.hp_tree.specs.declared.problem.Var.{Var}
use Rattle.hp_tree.specs.Sorted.{is_of_sort}
use Rattle.hp_tree.specs.Universal.{AreSorted, assign}
use Rattle.hp_tree.specs.Value.{Word}
use Rattle.hp_terms.specs.Scope.{Profile, Scope}
use Rattle.hp_terms.specs.Sorting.{atom_is_sorted, forms_of, has_form, is_sorted, relates, sort_of}
use Rattle.hp_terms.specs.Weight.{IsLightAtom}
use Rattle.hp_lit.specs.declared.literal.Name.{Name}
use Rattle.hp_lit.specs.declared.literal.IdxLit.{IdxLit}
use Rattle.hp_lit.specs.declared.literal.Lit.{Lit}
use Rattle.hp_lit.specs.declared.literal.Lit.TheVariants as lit
use Rattle.hp_lit.specs.declared.line.Arg.{Arg}
use Rattle.hp_lit.specs.declared.line.Arg.TheVariants.{Index}
use Rattle.hp_lit.specs.Fit.{IsIdxSide}
use Rattle.hp_lit.specs.Sorts.{HaveSorts}
use Rattle.hp_lit.specs.Truth.{Values, optional_value}
use Rattle.hp_lit.specs.Words.{Agrees, scope_over}
use Rattle.hp_index.specs.Literals.{literals}
use Rattle.hp_index.proofs.Fits.{literals_are_fit}
use Rattle.hp_index.proofs.Truth.{literals_are_true_with_atoms}
use Rattle.hp_defs.specs.Made.{IsMade}
use Rattle.hp_defs.specs.Names.{NameList, count, sorts, words}
use Rattle.hp_defs.proofs.Growing.{length_sorts}
use Rattle.hp_local.specs.Arrays.{Fine, IsArrayClause as local_clause, IsArrayGuard as local_guard, IsFine, Keeps, KeepsTruth}
use Rattle.hp_local.specs.Frame.{Frame}
use Rattle.hp_local.specs.Nearest.{nearest}
use Rattle.hp_local.proofs.Lists.{All-by, contains_cases, contains_none}
use Rattle.hp_base.specs.Values.{arg_value}
use Rattle.hp_norm.specs.declared.flat.FlatClause.{FlatClause}
use Rattle.hp_norm.specs.Flat.{universal_of}
use Rattle.hp_norm.specs.Opening.{mentions}
use Rattle.hp_norm.specs.Scopes.{clause_scope, function_profile}
use Rattle.hp_norm.proofs.ClauseScopes.{AreApart}
use Rattle.hp_class.specs.Frame.{is_function, words_at}
use Rattle.hp_flatten.specs.declared.application.Application.{Application}
use Rattle.hp_flatten.specs.Applications.{applications, atoms_applications, clause_applications}
use Rattle.hp_local.specs.Frame.{is_own}
use Rattle.hp_flatten.proofs.HoldsTerms.{back, front}
use Rattle.hp_index_set.specs.IndexSet.{atom_bounds, bounds_between, guard_bounds, is_variable, literal_bounds, sorted_bounds, var_words}
use Rattle.hp_index_set.specs.Rules.{has_variable, is_bounded_literal, is_convex, is_guard, is_head, is_index_guard, is_no_pointer, is_read}
use Rattle.hp_flatten.specs.Sorts.{is_idx, is_ptr}
use Rattle.hp_arrays.specs.Arrays.{IsArrayClause}
use Rattle.hp_arrays.proofs.Applied.{SidesPass, all_pass, atoms_pass}
use Rattle.hp_arrays.proofs.ClauseWords.{AreIdx, agrees_clause, have_clause, sort_there, sorted_length, var_sorts}
use Rattle.hp_arrays.proofs.Fine.{IsReadOf, bare_fine, num_fine}
use Rattle.hp_arrays.proofs.Literals.{goes, line_kept}
use Rattle.hp_arrays.proofs.Padded.{firsts, firsts_value, front_value, length_firsts, mapped}
use Rattle.hp_arrays.proofs.Scoped.{GivesNum, terms_stay}
use Rattle.hp_tuple_lines.proofs.Tuples.{contains_flat_map}

-- ---- values
-- whole numbers for variables of sort idx
values_whole : (size : ℕ) (vars : List Var) (xs : List ℚ) → AreIdx vars → AreSorted size vars xs → All (λ x. is_whole x ≡ true) xs
values_whole size [] [] idx h = All-nil (λ x. is_whole x ≡ true)
values_whole size [] (x ∷ xs) idx h = absurd h
values_whole size (v ∷ vars) [] idx h = absurd h
values_whole size (v ∷ vars) (x ∷ xs) idx h =
    All-cons (λ y. is_whole y ≡ true) x xs (subst (λ (s : Sort). is_of_sort size s x ≡ true) (All-head (λ (u : Var). u.sort ≡ Idx) v vars idx) h.0)
    (values_whole size vars xs (All-tail (λ (u : Var). u.sort ≡ Idx) v vars idx) h.1)

is_idx_sort : (s : Sort) → is_idx s ≡ true → s ≡ Idx
is_idx_sort Idx e = refl
is_idx_sort Num e = absurd (cc)
is_idx_sort Ptr e = absurd (cc)

not_false : (b : Bool) → not b ≡ false → b ≡ true
not_false true e = refl
not_false false e = absurd (cc)

-- ---- bounds
module _ (n : ℕ) (v xs : Values) where
  abbrev vs : Values
  vs = firsts n v ++ xs

  -- names keep their values
  name_same : (o : Option Name) → is_variable n o ≡ false → optional_value vs o ≡ optional_value v o
  name_same None e = refl
  name_same (Some name) e =
      let less : name.0 < n = ltb-true name.0 n (not_false (nat_lt name.0 n) e) in
      front_value (firsts n v) xs name.0 (let long = length_firsts n v in omega (arith, less, long)) ∙ firsts_value n v name.0 less

  between_same : (l : IdxLit) (a b : Bool) → is_variable n l.left ≡ a → is_variable n l.right ≡ b → (z : Arg) → Contains (bounds_between a b l) z → arg_value vs z ≡ arg_value v z
  between_same l true true e f z m = absurd (contains_none z m)
  between_same l false false e f z m = absurd (contains_none z m)
  between_same l true false e f z m = elim (contains_cases (Index l.right l.bound) [] z m) [
    | inl is ↦ subst (λ (y : Arg). arg_value vs y ≡ arg_value v y) is (ap (λ x. x +ℚ whole l.bound) (name_same l.right f))
    | inr k ↦ absurd (contains_none z k)
  ]
  between_same l false true e f z m = elim (contains_cases (Index l.left (neg_ℤ l.bound)) [] z m) [
    | inl is ↦ subst (λ (y : Arg). arg_value vs y ≡ arg_value v y) is (ap (λ x. x +ℚ whole (neg_ℤ l.bound)) (name_same l.left e))
    | inr k ↦ absurd (contains_none z k)
  ]

  literal_same : (l : Lit) (z : Arg) → Contains (literal_bounds n l) z → arg_value vs z ≡ arg_value v z
  literal_same (lit.Idx l) z m = between_same l (is_variable n l.left) (is_variable n l.right) refl refl z m
  literal_same (lit.Num l) z m = absurd (contains_none z m)
  literal_same (lit.Ptr l) z m = absurd (contains_none z m)

  bounds_same : (ls : List Lit) (z : Arg) → Contains (flat_map (literal_bounds n) ls) z → arg_value vs z ≡ arg_value v z
  bounds_same [] z m = absurd (contains_none z m)
  bounds_same (l ∷ ls) z m = elim (Contains-append_cases (literal_bounds n l) (flat_map (literal_bounds n) ls) z m) [
    | inl h ↦ literal_same l z h
    | inr h ↦ bounds_same ls z h
  ]

-- ---- a clause
module _ (names : NameList) (own : List ℕ) (c : FlatClause) (h : IsArrayClause names own c) (made : IsMade names)
    (numbers : (word : Word) → is_function names own word ≡ true → (p : Profile) → function_profile names word ≡ Some p → p.result ≡ Num) where
  abbrev test : Word → Bool
  test = is_own (words_at names own)

  abbrev IsRead : Application → Type 0
  IsRead = IsReadOf test c.vars

  abbrev scope : Scope
  scope = clause_scope names c.vars

  guards_parts : (list_all (λ (v : Var). is_idx v.sort) c.vars ≡ true) × ((list_all (is_guard names c) c.guard && list_all (is_head names c) c.head) ≡ true)
  guards_parts = and_parts (list_all (λ (v : Var). is_idx v.sort) c.vars) (list_all (is_guard names c) c.guard && list_all (is_head names c) c.head) h.guards

  guards : (list_all (is_guard names c) c.guard ≡ true) × (list_all (is_head names c) c.head ≡ true)
  guards = and_parts (list_all (is_guard names c) c.guard) (list_all (is_head names c) c.head) guards_parts.1

  reads_parts : (list_all (λ (a : Application). is_read c.vars a.args) (clause_applications c) ≡ true) × ((list_all (is_no_pointer names c) c.guard && list_all (is_no_pointer names c) c.head) ≡ true)
  reads_parts = and_parts (list_all (λ (a : Application). is_read c.vars a.args) (clause_applications c)) (list_all (is_no_pointer names c) c.guard && list_all (is_no_pointer names c) c.head) h.reads

  no_pointers : (list_all (is_no_pointer names c) c.guard ≡ true) × (list_all (is_no_pointer names c) c.head ≡ true)
  no_pointers = and_parts (list_all (is_no_pointer names c) c.guard) (list_all (is_no_pointer names c) c.head) reads_parts.1

  pub idx : AreIdx c.vars
  idx = All-by (λ (v : Var). v.sort ≡ Idx) c.vars (λ v m.
      is_idx_sort v.sort (All-contains (λ (u : Var). is_idx u.sort ≡ true) c.vars v (all_pass (λ (u : Var). is_idx u.sort) c.vars guards_parts.0) m))

  pub reads : All IsRead (clause_applications c)
  reads = All-by IsRead (clause_applications c) (λ a m. record {
    function = All-contains (λ (a : Application). is_function names own a.func ≡ true) (clause_applications c) a h.owned m;
    read = All-contains (λ (a : Application). is_read c.vars a.args ≡ true) (clause_applications c) a (all_pass (λ (a : Application). is_read c.vars a.args) (clause_applications c) reads_parts.0) m;
  })

  pub guard_sides : All (SidesPass IsRead) c.guard
  guard_sides = atoms_pass IsRead c.guard (front IsRead (atoms_applications c.guard) (atoms_applications c.head) reads)

  pub head_sides : All (SidesPass IsRead) c.head
  head_sides = atoms_pass IsRead c.head (back IsRead (atoms_applications c.guard) (atoms_applications c.head) reads)

  -- ---- fine atoms
  num_atom : (a : Atom) → SidesPass IsRead a → is_sorted scope Num a ≡ true → IsFine (words_at names own) (universal_of c) a
  num_atom a sides sorted =
      let p = and_parts (has_form (forms_of scope a.left) Num && has_form (forms_of scope a.right) Num) (relates Num a.cmp) sorted in
      let q = and_parts (has_form (forms_of scope a.left) Num) (has_form (forms_of scope a.right) Num) p.0 in
      and_from _ _ (num_fine test c.vars names idx a.left sides.left q.0) (num_fine test c.vars names idx a.right sides.right q.1)

  bare_atom : (a : Atom) → has_variable c.vars a ≡ false → IsFine (words_at names own) (universal_of c) a
  bare_atom a e = (let p = or_parts (mentions c.vars a.left) (mentions c.vars a.right) e in and_from _ _ (bare_fine test c.vars a.left p.0) (bare_fine test c.vars a.right p.1))

  head_fine : (a : Atom) → SidesPass IsRead a → atom_is_sorted scope a ≡ true → is_head names c a ≡ true → is_no_pointer names c a ≡ true → IsFine (words_at names own) (universal_of c) a
  head_fine a sides sorted head plain = by (sort_of scope a) sorted head plain
    where
      by : (s : Sort) → is_sorted scope s a ≡ true → (not (is_idx s) || not (has_variable c.vars a)) ≡ true → not (is_ptr s) ≡ true → IsFine (words_at names own) (universal_of c) a
      by Num e f g = num_atom a sides e
      by Idx e f g = bare_atom a (none (has_variable c.vars a) f)
        where
          none : (b : Bool) → not b ≡ true → b ≡ false
          none false t = refl
          none true t = absurd (cc)
      by Ptr e f g = absurd (cc)

  -- ---- atoms over words alone
  abbrev ws : List Word
  ws = words names ++ var_words c.vars

  abbrev ss : List Sort
  ss = sorts names ++ var_sorts c.vars

  apart : AreApart c.vars names
  apart = record { plain = h.flat.plain; fresh = h.flat.fresh }

  gives_num : (S : Scope) (stays : (word : Word) → scope.name word ≡ Some Idx → S.name word ≡ Some Idx) (pointers : scope.pointer ≡ S.pointer) (xs : List Application)
      → All IsRead xs → All (GivesNum scope S stays pointers) xs
  gives_num S stays pointers xs all = All-by (GivesNum scope S stays pointers) xs (λ a m p e. numbers a.func (All-contains IsRead xs a all m).function p e)

  side_over : (t : Term) → All IsRead (applications t) → has_form (forms_of scope t) Idx ≡ true → has_form (forms_of (scope_over ws ss) t) Idx ≡ true
  side_over t all e =
      let stays : (word : Word) → scope.name word ≡ Some Idx → (scope_over ws ss).name word ≡ Some Idx = λ word f. sort_there names c.vars made h.flat.distinct apart word Idx f in
      (terms_stay scope (scope_over ws ss) stays refl t (gives_num (scope_over ws ss) stays refl (applications t) all)).idx e

  atom_over : (a : Atom) → SidesPass IsRead a → is_sorted scope Idx a ≡ true → is_sorted (scope_over ws ss) Idx a ≡ true
  atom_over a sides sorted =
      let p = and_parts (has_form (forms_of scope a.left) Idx && has_form (forms_of scope a.right) Idx) (relates Idx a.cmp) sorted in
      let q = and_parts (has_form (forms_of scope a.left) Idx) (has_form (forms_of scope a.right) Idx) p.0 in
      and_from _ _ (and_from _ _ (side_over a.left sides.left q.0) (side_over a.right sides.right q.1)) p.1

  -- ---- atoms that bound variables
  module _ (is : List ℚ) (frame : Frame) (v : Values) (agrees : Agrees (words names) v frame.names) (have : HaveSorts (sorts names) v)
      (near : (x : ℚ) → Contains is (nearest is x)) (wholes : All (λ x. is_whole x ≡ true) is) where
    bounded_keeps : (a : Atom) → SidesPass IsRead a → IsLightAtom a → is_sorted scope Idx a ≡ true → list_all (is_bounded_literal (count names)) (literals ws true a) ≡ true
        → ((x : Arg) → Contains (flat_map (literal_bounds (count names)) (literals ws true a)) x → Contains is (arg_value v x)) → KeepsTruth is frame (universal_of c) a
    bounded_keeps a sides light sorted bounded among functions xs values t =
        let n = count names in
        let ys = map (nearest is) xs in
        let long = sorted_length frame.size c.vars xs values in
        let also : length ys ≡ length c.vars = length-map xs (nearest is) ∙ long in
        let whole_xs = values_whole frame.size c.vars xs idx values in
        let whole_ys : All (λ y. is_whole y ≡ true) ys =
        All-map (λ y. is_whole y ≡ true) (nearest is) xs (All-by (λ x. is_whole (nearest is x) ≡ true) xs (λ x m. All-contains (λ y. is_whole y ≡ true) is (nearest is x) wholes (near x))) in
        let vx = firsts n v ++ xs in
        let vy = firsts n v ++ ys in
        let over = atom_over a sides sorted in
        let have_x = have_clause names c.vars made h.flat.distinct apart v xs long idx have whole_xs in
        let have_y = have_clause names c.vars made h.flat.distinct apart v ys also idx have whole_ys in
        let agrees_x = agrees_clause names c.vars made h.flat.distinct apart v xs long frame.names agrees in
        let agrees_y = agrees_clause names c.vars made h.flat.distinct apart v ys also frame.names agrees in
        let ls = literals ws true a in
        let fit = literals_are_fit ws ss true a over light in
        let here = (literals_are_true_with_atoms ws ss vx (assign c.vars xs frame.names) functions true a agrees_x have_x over).1 t in
        let kept = line_kept is n ss vx vy have_x (λ o side. goes_there xs long o side) ls fit bounded (λ z m. subst (Contains is) (sym (bounds_same n v xs ls z m)) (among z m)) here in
        (literals_are_true_with_atoms ws ss vy (assign c.vars ys frame.names) functions true a agrees_y have_y over).0 kept
      where
        goes_there : (xs : List ℚ) → length xs ≡ length c.vars → (o : Option Name) → IsIdxSide ss o
            → optional_value (firsts (count names) v ++ map (nearest is) xs) o ≡ goes is (is_variable (count names) o) (optional_value (firsts (count names) v ++ xs) o)
        goes_there xs long None side = refl
        goes_there xs long (Some name) side =
            let within = slice_get_within ss name.0 Idx side in
            let all = length-append (sorts names) (var_sorts c.vars) in
            let some = length_sorts names in
            let more = length-map c.vars (λ (u : Var). u.sort) in
            mapped (nearest is) (count names) (firsts (count names) v) xs (length_firsts (count names) v) name (omega (arith, within, all, some, more, long))

    guard_atom : (a : Atom) → SidesPass IsRead a → IsLightAtom a → atom_is_sorted scope a ≡ true → is_guard names c a ≡ true → is_no_pointer names c a ≡ true
        → ((x : Arg) → Contains (atom_bounds names c a) x → Contains is (arg_value v x)) → local_guard is frame (words_at names own) (universal_of c) a
    guard_atom a sides light sorted guard plain among = by (sort_of scope a) sorted guard plain among
      where
        bounded : (b : Bool) → has_variable c.vars a ≡ b → is_sorted scope Idx a ≡ true → (not b || (is_convex a.cmp && list_all (is_bounded_literal (count names)) (literals ws true a))) ≡ true
            → ((x : Arg) → Contains (flat_map (literal_bounds (count names)) (literals ws true a)) x → Contains is (arg_value v x)) → local_guard is frame (words_at names own) (universal_of c) a
        bounded false e s f m = Fine (bare_atom a e)
        bounded true e s f m =
            let p = and_parts (is_convex a.cmp) (list_all (is_bounded_literal (count names)) (literals ws true a)) f in
            Keeps (bounded_keeps a sides light s p.1 m)

        by : (s : Sort) → is_sorted scope s a ≡ true → (not (is_idx s) || is_index_guard names c a) ≡ true → not (is_ptr s) ≡ true
            → ((x : Arg) → Contains (sorted_bounds s names c a) x → Contains is (arg_value v x)) → local_guard is frame (words_at names own) (universal_of c) a
        by Num e f g m = Fine (num_atom a sides e)
        by Idx e f g m = bounded (has_variable c.vars a) refl e f m
        by Ptr e f g m = absurd (cc)

    -- where the bounds of its guard are among the indexes, the clause is one over values
    pub clause_over_values : ((x : Arg) → Contains (guard_bounds names c) x → Contains is (arg_value v x)) → local_clause is frame (words_at names own) (universal_of c)
    clause_over_values among = record {
      guard = All-by (local_guard is frame (words_at names own) (universal_of c)) c.guard (λ a m.
          guard_atom a (All-contains (SidesPass IsRead) c.guard a guard_sides m) (All-contains IsLightAtom c.guard a h.flat.guard_light m)
          (All-contains (λ (a : Atom). atom_is_sorted scope a ≡ true) c.guard a h.flat.guard m)
          (All-contains (λ (a : Atom). is_guard names c a ≡ true) c.guard a (all_pass (is_guard names c) c.guard guards.0) m)
          (All-contains (λ (a : Atom). is_no_pointer names c a ≡ true) c.guard a (all_pass (is_no_pointer names c) c.guard no_pointers.0) m)
          (λ x k. among x (contains_flat_map (atom_bounds names c) c.guard a x m k)));
      head = All-by (IsFine (words_at names own) (universal_of c)) c.head (λ a m.
          head_fine a (All-contains (SidesPass IsRead) c.head a head_sides m)
          (All-contains (λ (a : Atom). atom_is_sorted scope a ≡ true) c.head a h.flat.head m)
          (All-contains (λ (a : Atom). is_head names c a ≡ true) c.head a (all_pass (is_head names c) c.head guards.1) m)
          (All-contains (λ (a : Atom). is_no_pointer names c a ≡ true) c.head a (all_pass (is_no_pointer names c) c.head no_pointers.1) m));
    }
