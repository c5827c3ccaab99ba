-- A group of arrays stays one while names are added.
use Rattle.std.proofs.Common.{◌≡◌, ◌∙◌, ℕ, ◌+◌, ◌&&◌, ◌||◌, List, [], ◌∷◌, Bool, true, not, refl, sym, ap, subst}
use Rattle.std.specs.List.{All, list_all}
use Rattle.std.proofs.lemmas.Bool.{and_from, and_parts}
use Rattle.std.proofs.lemmas.List.Elements.{All-head, All-tail, All-weaker}
use Rattle.hp_tree.specs.declared.problem.Atom.{Atom}
use Rattle.hp_tree.specs.declared.problem.Sort.{Sort}
use Rattle.hp_tree.specs.declared.problem.Sort.TheVariants.{Num, Idx, Ptr}
use Rattle.hp_tree.specs.Sides.{signed}
use Rattle.hp_tree.specs.Value.{Word}
use Rattle.hp_terms.specs.Scope.{Scope}
use Rattle.hp_terms.specs.Sorting.{atom_is_sorted, forms_of, has_form, relates, sort_of}
use Rattle.hp_terms.proofs.Wider.{wider_scopes_keep_sorts}
use Rattle.hp_index.specs.Forms.{index_of}
use Rattle.hp_index.specs.Literals.{form_literals}
use Rattle.hp_local.specs.Frame.{is_own}
use Rattle.hp_defs.specs.Made.{IsMade}
use Rattle.hp_defs.specs.Names.{BeginsNames, NameList, count}
use Rattle.hp_norm.specs.declared.flat.FlatClause.{FlatClause}
use Rattle.hp_norm.specs.Flat.{IsFlat}
use Rattle.hp_norm.specs.Scopes.{clause_scope}
use Rattle.hp_class.specs.Frame.{is_function}
use Rattle.hp_class.proofs.FunctionWords.{function_stays}
use Rattle.hp_class.proofs.Stays.{clause_scopes_widen, flat_stays}
use Rattle.hp_flatten.specs.declared.application.Application.{Application}
use Rattle.hp_flatten.specs.Applications.{clause_applications}
use Rattle.hp_index_set.specs.IndexSet.{clause_words}
use Rattle.hp_index_set.specs.Rules.{has_index_guards, has_variable, is_bounded_literal, is_convex, is_guard, is_head, is_index_guard, is_no_pointer, is_read, reads_at_variables}
use Rattle.hp_flatten.specs.Sorts.{is_idx, is_ptr}
use Rattle.hp_arrays.specs.Arrays.{IsArrayClause, IsArrayGroup}
use Rattle.hp_arrays.proofs.Shifting.{literals_shifted, shift_form}
use Rattle.hp_arrays.proofs.Moving.{index_moves}
use Rattle.hp_arrays.proofs.Own.{arrays_later}
use Rattle.hp_arrays.proofs.Words as moving

-- ---- clauses
module _ (old new : NameList) (b : BeginsNames old new) (made : IsMade new) (c : FlatClause) (flat : IsFlat old c) where
  abbrev less : Scope
  less = clause_scope old c.vars

  abbrev more : Scope
  more = clause_scope new c.vars

  abbrev IsSorted : Atom → Type 0
  IsSorted a = atom_is_sorted less a ≡ true

  same_sort : (a : Atom) → IsSorted a → sort_of less a ≡ sort_of more a
  same_sort a h = (wider_scopes_keep_sorts less more a (clause_scopes_widen c.vars old new b made) h).0

  abbrev added : ℕ
  added = moving.added old new b made c.vars flat.distinct flat.plain flat.fresh

  grown : count new ≡ count old + added
  grown = moving.count_moves old new b made c.vars flat.distinct flat.plain flat.fresh

  side_moves : (t : _) → has_form (forms_of less t) Idx ≡ true → index_of (clause_words new c) t ≡ shift_form (count old) added (index_of (clause_words old c) t)
  side_moves t e = index_moves less (clause_words old c) (clause_words new c) (count old) added (moving.words_move old new b made c.vars flat.distinct flat.plain flat.fresh) t e

  both_sides : (a : Atom) (s : Sort) → s ≡ Idx → has_form (forms_of less a.left) s && has_form (forms_of less a.right) s && relates s a.cmp ≡ true
      → (has_form (forms_of less a.left) Idx ≡ true) × (has_form (forms_of less a.right) Idx ≡ true)
  both_sides a s e h =
      let k = subst (λ z. has_form (forms_of less a.left) z && has_form (forms_of less a.right) z && relates z a.cmp ≡ true) e h in
      and_parts (has_form (forms_of less a.left) Idx) (has_form (forms_of less a.right) Idx)
      (and_parts (has_form (forms_of less a.left) Idx && has_form (forms_of less a.right) Idx) (relates Idx a.cmp) k).0

  index_guard_same : (a : Atom) → IsSorted a → sort_of less a ≡ Idx → is_index_guard old c a ≡ is_index_guard new c a
  index_guard_same a sorted e =
      let sides = both_sides a (sort_of less a) e sorted in
      let cmp = signed true a.cmp in
      let l = index_of (clause_words old c) a.left in
      let r = index_of (clause_words old c) a.right in
      let moved : list_all (is_bounded_literal (count old + added)) (form_literals cmp (shift_form (count old) added l) (shift_form (count old) added r))
      ≡ list_all (is_bounded_literal (count new)) (form_literals cmp (index_of (clause_words new c) a.left) (index_of (clause_words new c) a.right)) =
      (λ i. list_all (is_bounded_literal (sym grown i)) (form_literals cmp (sym (side_moves a.left sides.0) i) (sym (side_moves a.right sides.1) i))) in
      ap (λ bound. not (has_variable c.vars a) || (is_convex a.cmp && bound)) (sym (literals_shifted (count old) added cmp l r) ∙ moved)

  guard_at : (a : Atom) → IsSorted a → (s : Sort) → sort_of less a ≡ s → not (is_idx s) || is_index_guard old c a ≡ true → not (is_idx s) || is_index_guard new c a ≡ true
  guard_at a sorted Num e h = refl
  guard_at a sorted Idx e h = sym (index_guard_same a sorted e) ∙ h
  guard_at a sorted Ptr e h = refl

  guard_stays : (a : Atom) → IsSorted a → is_guard old c a ≡ true → is_guard new c a ≡ true
  guard_stays a sorted h =
      subst (λ s. not (is_idx s) || is_index_guard new c a ≡ true) (same_sort a sorted) (guard_at a sorted (sort_of less a) refl h)

  head_stays : (a : Atom) → IsSorted a → is_head old c a ≡ true → is_head new c a ≡ true
  head_stays a sorted h = subst (λ s. not (is_idx s) || not (has_variable c.vars a) ≡ true) (same_sort a sorted) h

  pointer_stays : (a : Atom) → IsSorted a → is_no_pointer old c a ≡ true → is_no_pointer new c a ≡ true
  pointer_stays a sorted h = subst (λ s. not (is_ptr s) ≡ true) (same_sort a sorted) h

  all_stay : (p q : Atom → Bool) → ((a : Atom) → IsSorted a → p a ≡ true → q a ≡ true) → (atoms : List Atom) → All IsSorted atoms → list_all p atoms ≡ true → list_all q atoms ≡ true
  all_stay p q stays [] sorted h = refl
  all_stay p q stays (a ∷ atoms) sorted h =
      let w = and_parts (p a) (list_all p atoms) h in
      and_from (q a) (list_all q atoms) (stays a (All-head IsSorted a atoms sorted) w.0) (all_stay p q stays atoms (All-tail IsSorted a atoms sorted) w.1)

  pub guards_stay : has_index_guards old c ≡ true → has_index_guards new c ≡ true
  guards_stay h =
      let vars = list_all (λ v. is_idx v.sort) c.vars in
      let w = and_parts vars (list_all (is_guard old c) c.guard && list_all (is_head old c) c.head) h in
      let u = and_parts (list_all (is_guard old c) c.guard) (list_all (is_head old c) c.head) w.1 in
      and_from vars (list_all (is_guard new c) c.guard && list_all (is_head new c) c.head) w.0
      (and_from (list_all (is_guard new c) c.guard) (list_all (is_head new c) c.head)
      (all_stay (is_guard old c) (is_guard new c) guard_stays c.guard flat.guard u.0) (all_stay (is_head old c) (is_head new c) head_stays c.head flat.head u.1))

  pub reads_stay : reads_at_variables old c ≡ true → reads_at_variables new c ≡ true
  reads_stay h =
      let reads = list_all (λ a. is_read c.vars a.args) (clause_applications c) in
      let w = and_parts reads (list_all (is_no_pointer old c) c.guard && list_all (is_no_pointer old c) c.head) h in
      let u = and_parts (list_all (is_no_pointer old c) c.guard) (list_all (is_no_pointer old c) c.head) w.1 in
      and_from reads (list_all (is_no_pointer new c) c.guard && list_all (is_no_pointer new c) c.head) w.0
      (and_from (list_all (is_no_pointer new c) c.guard) (list_all (is_no_pointer new c) c.head)
      (all_stay (is_no_pointer old c) (is_no_pointer new c) pointer_stays c.guard flat.guard u.0) (all_stay (is_no_pointer old c) (is_no_pointer new c) pointer_stays c.head flat.head u.1))

clause_stays : (old new : NameList) (own : List ℕ) (c : FlatClause) → BeginsNames old new → IsMade new → IsArrayClause old own c → IsArrayClause new own c
clause_stays old new own c b made h = record {
  flat = flat_stays old new c b made h.flat;
  few = h.few;
  guards = guards_stay old new b made c h.flat h.guards;
  reads = reads_stay old new b made c h.flat h.reads;
  owned = All-weaker (λ (a : Application). is_function old own a.func ≡ true) (λ (a : Application). is_function new own a.func ≡ true)
      (λ a e. sym (function_stays old new own a.func b.signatures) ∙ e) (clause_applications c) h.owned;
}

pub arrays_stay : (old new : NameList) (own : List ℕ) (words : List Word) (clauses : List FlatClause) → IsArrayGroup old own words clauses → BeginsNames old new → IsMade new
    → IsArrayGroup new own words clauses
arrays_stay old new own words clauses lent b made = record {
  functions = arrays_later old new b.signatures own words lent.functions;
  all = All-weaker (IsArrayClause old own) (IsArrayClause new own) (λ c h. clause_stays old new own c b made h) clauses lent.all;
  read = lent.read;
}
