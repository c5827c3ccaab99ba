-- The bounds of guards stay while definitions are added: names before stay in their places, and variables move behind.
use Rattle.std.proofs.Common.{◌≡◌, ◌∙◌, ℕ, ◌+◌, Bool, true, false, ◌&&◌, ◌-ℤ◌, ℤ, neg_ℤ, List, [], ◌∷◌, ◌++◌, map, length, Option, Some, None, slice_get, ◌⊎◌, inl, inr, refl, sym, ap, subst}
use Rattle.std.specs.List.{All, flat_map}
use Rattle.std.proofs.lemmas.Bool.{and_parts}
use Rattle.std.proofs.lemmas.List.Elements.{All-head, All-tail}
use Rattle.hp_tree.specs.Value.{Word}
use Rattle.hp_tree.specs.declared.problem.Atom.{Atom}
use Rattle.hp_tree.specs.declared.problem.Cmp.{Cmp}
use Rattle.hp_tree.specs.declared.problem.Cmp.TheVariants.{Le, Lt, Eq, Ne, Ge, Gt}
use Rattle.hp_tree.specs.declared.problem.Sort.{Sort}
use Rattle.hp_tree.specs.declared.problem.Sort.TheVariants.{Num, Idx, Ptr}
use Rattle.hp_tree.specs.declared.problem.Var.{Var}
use Rattle.hp_names.specs.Names.{is_among}
use Rattle.hp_terms.specs.Scope.{Scope, Widens}
use Rattle.hp_terms.specs.Sorting.{atom_is_sorted, forms_of, has_form, is_sorted, relates, sort_of}
use Rattle.hp_terms.proofs.Wider.{wider_scopes_keep_sorts}
use Rattle.hp_lit.specs.declared.literal.Name.{Name}
use Rattle.hp_lit.specs.declared.literal.Rel.{Rel}
use Rattle.hp_lit.specs.declared.literal.Rel.TheVariants as rel
use Rattle.hp_lit.specs.declared.line.Arg.{Arg}
use Rattle.hp_lit.specs.declared.line.Arg.TheVariants.{Index}
use Rattle.hp_lit.specs.Fit.{IsIdxSide}
use Rattle.hp_lit.specs.Words.{number}
use Rattle.hp_defs.specs.declared.names.Constant.{Constant}
use Rattle.hp_defs.specs.Made.{IsMade}
use Rattle.hp_defs.specs.Names.{BeginsNames, NameList, constant_name, count, sorts, words}
use Rattle.hp_defs.proofs.Growing.{numbers_stay}
use Rattle.hp_index.specs.declared.form.IndexForm.{IndexForm}
use Rattle.hp_index.specs.Forms.{index_of}
use Rattle.hp_index.specs.Literals.{bound_of, form_literals, literals}
use Rattle.hp_index.proofs.Named.{IsNameOf}
use Rattle.hp_norm.specs.declared.flat.FlatClause.{FlatClause}
use Rattle.hp_norm.specs.Flat.{IsFlat}
use Rattle.hp_norm.specs.Scopes.{clause_scope}
use Rattle.hp_index_set.specs.IndexSet.{atom_bounds, clause_words, guard_bounds, is_variable, literal_bounds, sorted_bounds, var_words}
use Rattle.hp_index_set.proofs.IndexTerms.{Matches, terms_match}
use Rattle.hp_index_set.proofs.RowBounds.{left_variable, no_variables, right_variable, row_bounds, two_variables}
use Rattle.hp_index_set.proofs.WordPlaces.{IsIdxWord, idx_word, name_below, number_of_name, number_of_variable, variable_above}

-- ---- sides
-- a name of sort idx, which is the same, and a variable, which stays one
pub record IsSameSide (before after : NameList) (one other : Option Name) : Type 0 where
  pub below : is_variable (count before) one ≡ false
  pub still_below : is_variable (count after) other ≡ false
  pub same : one ≡ other
  pub sorted : IsIdxSide (sorts before) one

pub record IsVariableSide (before after : NameList) (one other : Option Name) : Type 0 where
  pub above : is_variable (count before) one ≡ true
  pub still_above : is_variable (count after) other ≡ true

abbrev pub GoesTo : NameList → NameList → Option Name → Option Name → Type 0
GoesTo before after one other = IsSameSide before after one other ⊎ IsVariableSide before after one other

-- ---- rows
module _ (before after : NameList) (r : Rel) (l m u w : IndexForm) (same : bound_of r (m.offset -ℤ l.offset) ≡ bound_of r (w.offset -ℤ u.offset)) where
  rows_same : GoesTo before after l.base u.base → GoesTo before after m.base w.base → row_bounds (count before) r l m ≡ row_bounds (count after) r u w
  rows_same (inl a) (inl b) = no_variables (count before) r l m a.below b.below ∙ sym (no_variables (count after) r u w a.still_below b.still_below)
  rows_same (inr a) (inr b) = two_variables (count before) r l m a.above b.above ∙ sym (two_variables (count after) r u w a.still_above b.still_above)
  rows_same (inr a) (inl b) =
      left_variable (count before) r l m a.above b.below
      ∙ (λ i. Index (b.same i) (same i) ∷ [])
      ∙ sym (left_variable (count after) r u w a.still_above b.still_below)
  rows_same (inl a) (inr b) =
      right_variable (count before) r l m a.below b.above
      ∙ (λ i. Index (a.same i) (neg_ℤ (same i)) ∷ [])
      ∙ sym (right_variable (count after) r u w a.still_below b.still_above)

module _ (before after : NameList) (l m u w : IndexForm) (left : l.offset ≡ u.offset) (right : m.offset ≡ w.offset) (a : GoesTo before after l.base u.base) (b : GoesTo before after m.base w.base) where
  forwards : (r : Rel) → row_bounds (count before) r l m ≡ row_bounds (count after) r u w
  forwards r = rows_same before after r l m u w (λ i. bound_of r (right i -ℤ left i)) a b

  backwards : (r : Rel) → row_bounds (count before) r m l ≡ row_bounds (count after) r w u
  backwards r = rows_same before after r m l w u (λ i. bound_of r (left i -ℤ right i)) b a

  -- one literal, and none behind
  one : (xs ys : List Arg) → xs ≡ ys → xs ++ [] ≡ ys ++ []
  one xs ys e = ap (λ (zs : List Arg). zs ++ []) e

  pub forms_same : (cmp : Cmp) → flat_map (literal_bounds (count before)) (form_literals cmp l m) ≡ flat_map (literal_bounds (count after)) (form_literals cmp u w)
  forms_same Le = ap (λ (zs : List Arg). zs ++ []) (forwards rel.Le)
  forms_same Lt = ap (λ (zs : List Arg). zs ++ []) (forwards rel.Lt)
  forms_same Eq = ap (λ (zs : List Arg). zs ++ []) (forwards rel.Eq)
  forms_same Ne = λ i. forwards rel.Lt i ++ (backwards rel.Lt i ++ [])
  forms_same Ge = ap (λ (zs : List Arg). zs ++ []) (backwards rel.Le)
  forms_same Gt = ap (λ (zs : List Arg). zs ++ []) (backwards rel.Lt)

-- ---- words
module _ (before after : NameList) (c : FlatClause) (made : IsMade before) (after_made : IsMade after) (begins : BeginsNames before after) (flat : IsFlat before c) (after_flat : IsFlat after c) where
  pub none_goes : GoesTo before after None None
  none_goes = inl (record { below = refl; still_below = refl; same = refl; sorted = tt })

  pub word_goes : (word : Word) → (clause_scope before c.vars).name word ≡ Some Idx → GoesTo before after (number (clause_words before c) word) (number (clause_words after c) word)
  word_goes word e = by (idx_word before c.vars word e)
    where
      by : IsIdxWord before c.vars word → GoesTo before after (number (clause_words before c) word) (number (clause_words after c) word)
      by (inl n) =
          let there = numbers_stay before after word n.name begins after_made n.there in
          let here = number_of_name before c made flat word n.name n.there in
          let then' = number_of_name after c after_made after_flat word n.name there in
          inl (record {
            below = ap (is_variable (count before)) here ∙ name_below before c made flat word n.name n.there;
            still_below = ap (is_variable (count after)) then' ∙ name_below after c after_made after_flat word n.name there;
            same = here ∙ sym then';
            sorted = subst (IsIdxSide (sorts before)) (sym here) n.sort;
          })
      by (inr p) = inr (record {
        above = ap (is_variable (count before)) (number_of_variable before c made flat word p.0 p.1) ∙ variable_above before c made flat p.0;
        still_above = ap (is_variable (count after)) (number_of_variable after c after_made after_flat word p.0 p.1) ∙ variable_above after c after_made after_flat p.0;
      })

  -- ---- atoms
  sorted_same : (s : Sort) (atom : Atom) → is_sorted (clause_scope before c.vars) s atom ≡ true → sorted_bounds s before c atom ≡ sorted_bounds s after c atom
  sorted_same Num atom e = refl
  sorted_same Ptr atom e = refl
  sorted_same Idx atom e =
      let scope = clause_scope before c.vars in
      let h = and_parts (has_form (forms_of scope atom.left) Idx && has_form (forms_of scope atom.right) Idx) (relates Idx atom.cmp) e in
      let g = and_parts (has_form (forms_of scope atom.left) Idx) (has_form (forms_of scope atom.right) Idx) h.0 in
      let left = terms_match scope (clause_words before c) (clause_words after c) (GoesTo before after) none_goes word_goes atom.left in
      let right = terms_match scope (clause_words before c) (clause_words after c) (GoesTo before after) none_goes word_goes atom.right in
      forms_same before after (index_of (clause_words before c) atom.left) (index_of (clause_words before c) atom.right) (index_of (clause_words after c) atom.left) (index_of (clause_words after c) atom.right)
      left.offset right.offset (left.index g.0) (right.index g.1) atom.cmp

  atom_same : Widens (clause_scope before c.vars) (clause_scope after c.vars) → (atom : Atom) → atom_is_sorted (clause_scope before c.vars) atom ≡ true → atom_bounds before c atom ≡ atom_bounds after c atom
  atom_same wider atom e =
      let keeps = wider_scopes_keep_sorts (clause_scope before c.vars) (clause_scope after c.vars) atom wider e in
      sorted_same (sort_of (clause_scope before c.vars) atom) atom e ∙ ap (λ (s : Sort). sorted_bounds s after c atom) keeps.0

  atoms_same : Widens (clause_scope before c.vars) (clause_scope after c.vars) → (atoms : List Atom) → All (λ a. atom_is_sorted (clause_scope before c.vars) a ≡ true) atoms
      → flat_map (atom_bounds before c) atoms ≡ flat_map (atom_bounds after c) atoms
  atoms_same wider [] all = refl
  atoms_same wider (a ∷ atoms) all =
      let first = atom_same wider a (All-head (λ b. atom_is_sorted (clause_scope before c.vars) b ≡ true) a atoms all) in
      let rest = atoms_same wider atoms (All-tail (λ b. atom_is_sorted (clause_scope before c.vars) b ≡ true) a atoms all) in
      λ i. first i ++ rest i

  pub guard_bounds_same : Widens (clause_scope before c.vars) (clause_scope after c.vars) → guard_bounds before c ≡ guard_bounds after c
  guard_bounds_same wider = atoms_same wider c.guard flat.guard
