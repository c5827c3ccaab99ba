-- The entries of the index set are indexes over names, with small numbers.
use Rattle.std.proofs.Common.{◌≡◌, ◌∙◌, ℕ, zero, suc, ◌+◌, ◌<◌, ◌≤◌, Bool, true, false, ◌&&◌, ◌||◌, ℤ, pos, neg_ℤ, ◌+ℤ◌, ◌-ℤ◌, List, [], ◌∷◌, ◌++◌, map, take, drop, Option, Some, None, slice_get, inl, inr, refl, sym, ap, subst, arith, true≢false}
use Rattle.std.specs.Prelude.{if◌then◌else◌, nat_eq}
use Rattle.std.specs.List.{All, AllZip, flat_map, list_any}
use Rattle.std.proofs.lemmas.Bool.{and_parts}
use Rattle.std.proofs.lemmas.Bool.Decides.{Decides-eqb}
use Rattle.std.proofs.lemmas.Int.{ints}
use Rattle.std.proofs.lemmas.List.{take-append-drop}
use Rattle.std.proofs.lemmas.List.Elements.{All-nil, All-cons, All-head, All-tail, All-append, All-contains}
use Rattle.hp_tree.specs.declared.problem.Atom.{Atom}
use Rattle.hp_tree.specs.declared.problem.Cmp.{Cmp}
use Rattle.hp_tree.specs.declared.problem.Cmp.TheVariants.{Le, Lt, Eq, Ne, Ge, Gt}
use Rattle.hp_tree.specs.declared.problem.Sort.{Sort}
use Rattle.hp_tree.specs.declared.problem.Sort.TheVariants.{Num, Idx, Ptr}
use Rattle.hp_terms.specs.Sorting.{atom_is_sorted, forms_of, has_form, is_sorted, relates, sort_of}
use Rattle.hp_terms.specs.Weight.{IsLightAtom, IsSmallOffset, IsWithin, largest_offset, weight}
use Rattle.hp_lit.specs.declared.literal.Rel.{Rel}
use Rattle.hp_lit.specs.declared.literal.Rel.TheVariants as rel
use Rattle.hp_lit.specs.declared.line.Arg.{Arg}
use Rattle.hp_lit.specs.declared.line.Arg.TheVariants.{Index}
use Rattle.hp_lit.specs.declared.line.Body.{Body}
use Rattle.hp_lit.specs.declared.line.Body.TheVariants.{Apply, Sum}
use Rattle.hp_lit.specs.declared.line.Def.{Def}
use Rattle.hp_defs.specs.declared.names.Signature.{Signature}
use Rattle.hp_defs.specs.Fit.{ArgFits, BodyFits, IsFitNames}
use Rattle.hp_defs.specs.Made.{IsMade, IsSmallArg, IsSmallBody}
use Rattle.hp_defs.specs.Names.{BeginsNames, NameList, bodies, count, definition_body, first_names, sorts}
use Rattle.hp_defs.proofs.Fitting.{bodies_stay_fit}
use Rattle.hp_index.specs.declared.form.IndexForm.{IndexForm}
use Rattle.hp_index.specs.Forms.{index_of}
use Rattle.hp_index.specs.Literals.{bound_of, form_literals, literals}
use Rattle.hp_index.proofs.Bounds.{offsets_are_within_weights}
use Rattle.hp_class.specs.Frame.{is_place}
use Rattle.hp_norm.specs.declared.flat.FlatClause.{FlatClause}
use Rattle.hp_norm.specs.Flat.{IsFlat}
use Rattle.hp_norm.specs.Scopes.{clause_scope}
use Rattle.hp_index_set.specs.IndexSet.{applied_at, atom_bounds, body_indexes, clause_words, guard_bounds, index_set, literal_bounds, or_zero, same_index, sorted_bounds, with_index, with_indexes}
use Rattle.hp_index_set.specs.Laws.{HasIndexArgument, IndexesAreSmall, IsFitIndex}
use Rattle.hp_index_set.proofs.IndexTerms.{terms_match}
use Rattle.hp_index_set.proofs.RowBounds.{left_variable, no_variables, right_variable, row_bounds, two_variables}
use Rattle.hp_index_set.proofs.Stay.{GoesTo, none_goes, word_goes}
use Rattle.hp_defs.proofs.Growing.{begins_itself}

-- ---- lists
-- what all of some and all of others have
all_with_index : (P : Arg → Type 0) (xs : List Arg) (x : Arg) → All P xs → P x → All P (with_index xs x)
all_with_index P xs x all p = by (list_any (same_index x) xs)
  where
    by : (b : Bool) → All P (if b then xs else xs ++ x ∷ [])
    by true = all
    by false = All-append P xs (x ∷ []) all (All-cons P x [] p (All-nil P))

pub all_with_indexes : (P : Arg → Type 0) (xs more : List Arg) → All P xs → All P more → All P (with_indexes xs more)
all_with_indexes P xs [] all others = all
all_with_indexes P xs (x ∷ more) all others = all_with_indexes P (with_index xs x) more (all_with_index P xs x all (All-head P x more others)) (All-tail P x more others)

all_or_zero : (P : Arg → Type 0) (xs : List Arg) → All P xs → P (Index None (pos 0)) → All P (or_zero xs)
all_or_zero P [] all p = All-cons P (Index None (pos 0)) [] p (All-nil P)
all_or_zero P (x ∷ xs) all p = all

all_parts : {X : Type 0} (P : Arg → Type 0) (f : X → List Arg) (xs : List X) → All (λ x. All P (f x)) xs → All P (flat_map f xs)
all_parts {X} P f [] all = All-nil P
all_parts {X} P f (x ∷ xs) all = All-append P (f x) (flat_map f xs) (All-head (λ (y : X). All P (f y)) x xs all) (all_parts P f xs (All-tail (λ (y : X). All P (f y)) x xs all))

all_places : {X : Type 0} (Q : X → Type 0) (xs : List X) → ((k : ℕ) (x : X) → slice_get xs k ≡ Some x → Q x) → All Q xs
all_places Q [] each = All-nil Q
all_places Q (x ∷ xs) each = All-cons Q x xs (each 0 x refl) (all_places Q xs (λ k y e. each (suc k) y e))

at_place : {X : Type 0} (Q : X → Type 0) (xs : List X) (k : ℕ) (x : X) → All Q xs → slice_get xs k ≡ Some x → Q x
at_place Q [] k x all e = absurd (cc)
at_place {X} Q (y ∷ xs) zero x all e = subst Q (let same : y ≡ x = cc in same) (All-head Q y xs all)
at_place {X} Q (y ∷ xs) (suc k) x all e = at_place Q xs k x (All-tail Q y xs all) e

-- ---- applications
own_has : (P : ℕ → Type 0) (own : List ℕ) (func : ℕ) → All P own → is_place own func ≡ true → P func
own_has P [] func all e = absurd (true≢false (sym e))
own_has P (other ∷ own) func all e = by (nat_eq other func) refl (own_has P own func (All-tail P other own all)) e
  where
    by : (b : Bool) → nat_eq other func ≡ b → (is_place own func ≡ true → P func) → (b || is_place own func) ≡ true → P func
    by true f later g = subst P ((Decides-eqb other func).0 f) (All-head P other own all)
    by false f later g = later g

one_fits : (names : NameList) (args : List Arg) → AllZip (ArgFits (sorts names)) (Idx ∷ []) args → All IsSmallArg args → All (IsFitIndex names) args
one_fits names [] fit small = absurd fit
one_fits names (x ∷ []) fit small = All-cons (IsFitIndex names) x [] (record { fits = fit.0; small = All-head IsSmallArg x [] small }) (All-nil (IsFitIndex names))
one_fits names (x ∷ y ∷ args) fit small = absurd fit.1

module _ (own : List ℕ) (names : NameList) (owned : All (HasIndexArgument names) own) where
  body_fits : (body : Body) → BodyFits names body → IsSmallBody body → All (IsFitIndex names) (body_indexes own body)
  body_fits (Sum lin) fit small = All-nil (IsFitIndex names)
  body_fits (Apply func args) fit small = by (is_place own func) refl
    where
      by : (b : Bool) → is_place own func ≡ b → All (IsFitIndex names) (if b then args else [])
      by false e = All-nil (IsFitIndex names)
      by true e =
          let has = own_has (HasIndexArgument names) own func owned e in
          let both : Some fit.known ≡ Some has.signature = sym fit.found ∙ has.known in
          let same : fit.known ≡ has.signature = cc in
          let sorted : fit.known.args ≡ Idx ∷ [] = ap (λ (s : Signature). s.args) same ∙ has.arguments in
          one_fits names args (subst (λ (ss : List Sort). AllZip (ArgFits (sorts names)) ss args) sorted fit.args_fit) small

  pub applied_fit : IsMade names → IsFitNames names → All (IsFitIndex names) (applied_at own names.definitions)
  applied_fit made fit =
      all_parts (IsFitIndex names) (λ (d : Def). body_indexes own d.body) names.definitions
      (all_places (λ (d : Def). All (IsFitIndex names) (body_indexes own d.body)) names.definitions
      (λ k d e.
      let begins : BeginsNames (first_names k names) names = record { constants = refl; signatures = refl; definitions = record { more = drop k names.definitions; all = sym (take-append-drop k names.definitions) } } in
      body_fits d.body (bodies_stay_fit d.body (first_names k names) names begins (fit k d e)) (at_place IsSmallBody (bodies names) k d.body made.small (body_at names.definitions k d e))))
    where
      body_at : (ds : List Def) (k : ℕ) (d : Def) → slice_get ds k ≡ Some d → slice_get (map definition_body ds) k ≡ Some d.body
      body_at [] k d e = absurd (cc)
      body_at (x ∷ ds) zero d e = ap (λ (o : Option Def). elim o [ None ↦ None | Some y ↦ Some (definition_body y) ]) e
      body_at (x ∷ ds) (suc k) d e = body_at ds k d e

-- ---- bounds
within_bound : (a b n : ℕ) (x y : ℤ) (r : Rel) → a + b < n → IsWithin a x → IsWithin b y → IsWithin n (bound_of r (y -ℤ x))
within_bound a b n x y rel.Le less p q = let g = p.low in let h = p.high in let i = q.low in let j = q.high in record { low = omega (arith, ints); high = omega (arith, ints) }
within_bound a b n x y rel.Lt less p q = let g = p.low in let h = p.high in let i = q.low in let j = q.high in record { low = omega (arith, ints); high = omega (arith, ints) }
within_bound a b n x y rel.Eq less p q = let g = p.low in let h = p.high in let i = q.low in let j = q.high in record { low = omega (arith, ints); high = omega (arith, ints) }

within_neg : (n : ℕ) (x : ℤ) → IsWithin n x → IsWithin n (neg_ℤ x)
within_neg n x p = let g = p.low in let h = p.high in record { low = omega (arith, ints); high = omega (arith, ints) }

module _ (names : NameList) (a b : ℕ) (less : a + b < largest_offset) where
  row_fits : (r : Rel) (l m : IndexForm) → GoesTo names names l.base l.base → GoesTo names names m.base m.base → IsSmallOffset (bound_of r (m.offset -ℤ l.offset)) → All (IsFitIndex names) (row_bounds (count names) r l m)
  row_fits r l m (inl p) (inl q) small = subst (All (IsFitIndex names)) (sym (no_variables (count names) r l m p.below q.below)) (All-nil (IsFitIndex names))
  row_fits r l m (inr p) (inr q) small = subst (All (IsFitIndex names)) (sym (two_variables (count names) r l m p.above q.above)) (All-nil (IsFitIndex names))
  row_fits r l m (inr p) (inl q) small =
      let bound = bound_of r (m.offset -ℤ l.offset) in
      subst (All (IsFitIndex names)) (sym (left_variable (count names) r l m p.above q.below))
      (All-cons (IsFitIndex names) (Index m.base bound) [] (record { fits = q.sorted; small = small }) (All-nil (IsFitIndex names)))
  row_fits r l m (inl p) (inr q) small =
      let bound = neg_ℤ (bound_of r (m.offset -ℤ l.offset)) in
      subst (All (IsFitIndex names)) (sym (right_variable (count names) r l m p.below q.above))
      (All-cons (IsFitIndex names) (Index l.base bound) [] (record { fits = p.sorted; small = within_neg largest_offset (bound_of r (m.offset -ℤ l.offset)) small }) (All-nil (IsFitIndex names)))

  module _ (l m : IndexForm) (p : GoesTo names names l.base l.base) (q : GoesTo names names m.base m.base) (left : IsWithin a l.offset) (right : IsWithin b m.offset) where
    forwards_fit : (r : Rel) → All (IsFitIndex names) (row_bounds (count names) r l m)
    forwards_fit r = row_fits r l m p q (within_bound a b largest_offset l.offset m.offset r less left right)

    backwards_fit : (r : Rel) → All (IsFitIndex names) (row_bounds (count names) r m l)
    backwards_fit r = row_fits r m l q p (within_bound b a largest_offset m.offset l.offset r (omega arith) right left)

    alone_fits : (xs : List Arg) → All (IsFitIndex names) xs → All (IsFitIndex names) (xs ++ [])
    alone_fits xs all = All-append (IsFitIndex names) xs [] all (All-nil (IsFitIndex names))

    forms_fit : (cmp : Cmp) → All (IsFitIndex names) (flat_map (literal_bounds (count names)) (form_literals cmp l m))
    forms_fit Le = alone_fits (row_bounds (count names) rel.Le l m) (forwards_fit rel.Le)
    forms_fit Lt = alone_fits (row_bounds (count names) rel.Lt l m) (forwards_fit rel.Lt)
    forms_fit Eq = alone_fits (row_bounds (count names) rel.Eq l m) (forwards_fit rel.Eq)
    forms_fit Ne = All-append (IsFitIndex names) (row_bounds (count names) rel.Lt l m) (row_bounds (count names) rel.Lt m l ++ []) (forwards_fit rel.Lt) (alone_fits (row_bounds (count names) rel.Lt m l) (backwards_fit rel.Lt))
    forms_fit Ge = alone_fits (row_bounds (count names) rel.Le m l) (backwards_fit rel.Le)
    forms_fit Gt = alone_fits (row_bounds (count names) rel.Lt m l) (backwards_fit rel.Lt)

module _ (names : NameList) (c : FlatClause) (made : IsMade names) (flat : IsFlat names c) where
  sorted_fit : (s : Sort) (atom : Atom) → IsLightAtom atom → is_sorted (clause_scope names c.vars) s atom ≡ true → All (IsFitIndex names) (sorted_bounds s names c atom)
  sorted_fit Num atom light e = All-nil (IsFitIndex names)
  sorted_fit Ptr atom light e = All-nil (IsFitIndex names)
  sorted_fit Idx atom light e =
      let scope = clause_scope names c.vars in
      let ws = clause_words names c in
      let h = and_parts (has_form (forms_of scope atom.left) Idx && has_form (forms_of scope atom.right) Idx) (relates Idx atom.cmp) e in
      let g = and_parts (has_form (forms_of scope atom.left) Idx) (has_form (forms_of scope atom.right) Idx) h.0 in
      let goes = word_goes names names c made made (begins_itself names) flat flat in
      let none = none_goes names names c made made (begins_itself names) flat flat in
      let left = terms_match scope ws ws (GoesTo names names) none goes atom.left in
      let right = terms_match scope ws ws (GoesTo names names) none goes atom.right in
      forms_fit names (weight atom.left) (weight atom.right) light (index_of ws atom.left) (index_of ws atom.right) (left.index g.0) (right.index g.1)
      (offsets_are_within_weights ws atom.left) (offsets_are_within_weights ws atom.right) atom.cmp

  atoms_fit : (atoms : List Atom) → All (λ a. atom_is_sorted (clause_scope names c.vars) a ≡ true) atoms → All IsLightAtom atoms → All (IsFitIndex names) (flat_map (atom_bounds names c) atoms)
  atoms_fit [] sorted light = All-nil (IsFitIndex names)
  atoms_fit (a ∷ atoms) sorted light =
      All-append (IsFitIndex names) (atom_bounds names c a) (flat_map (atom_bounds names c) atoms)
      (sorted_fit (sort_of (clause_scope names c.vars) a) a (All-head IsLightAtom a atoms light) (All-head (λ b. atom_is_sorted (clause_scope names c.vars) b ≡ true) a atoms sorted))
      (atoms_fit atoms (All-tail (λ b. atom_is_sorted (clause_scope names c.vars) b ≡ true) a atoms sorted) (All-tail IsLightAtom a atoms light))

  guard_fits : All (IsFitIndex names) (guard_bounds names c)
  guard_fits = atoms_fit c.guard flat.guard flat.guard_light

clauses_fit : (names : NameList) (clauses : List FlatClause) → IsMade names → All (IsFlat names) clauses → All (IsFitIndex names) (flat_map (guard_bounds names) clauses)
clauses_fit names [] made all = All-nil (IsFitIndex names)
clauses_fit names (c ∷ clauses) made all =
    All-append (IsFitIndex names) (guard_bounds names c) (flat_map (guard_bounds names) clauses) (guard_fits names c made (All-head (IsFlat names) c clauses all))
    (clauses_fit names clauses made (All-tail (IsFlat names) c clauses all))

-- ---- the index set
zero_fits : (names : NameList) → IsFitIndex names (Index None (pos 0))
zero_fits names = record { fits = tt; small = record { low = omega (arith, ints); high = omega (arith, ints) } }

pub indexes_are_small : IndexesAreSmall
indexes_are_small own clauses names made fit owned flat =
    let applied = applied_at own names.definitions in
    let bounds = flat_map (guard_bounds names) clauses in
    all_or_zero (IsFitIndex names) (with_indexes (with_indexes [] applied) bounds)
    (all_with_indexes (IsFitIndex names) (with_indexes [] applied) bounds (all_with_indexes (IsFitIndex names) [] applied (All-nil (IsFitIndex names)) (applied_fit own names owned made fit))
    (clauses_fit names clauses made flat))
    (zero_fits names)
