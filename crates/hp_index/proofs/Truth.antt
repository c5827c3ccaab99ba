-- Literals that compare two forms are true exactly where the values of the forms stand in the relation, and those of an
-- atom exactly where the atom is true or false.
use Rattle.std.proofs.Common.{◌≡◌, ◌↔◌, ◌⊎◌, Bool, true, false, not, cond, ◌&&◌, List, pos, Option, Some, None, refl, sym, ap, subst, ◌∙◌, inl, inr}
use Rattle.std.proofs.lemmas.Bool.{and_parts, eqb-true}
use Rattle.hp_math.specs.Rational.{ℚ, whole, ◌-ℚ◌, ◌≤ℚ◌, ◌<ℚ◌, is_whole, eq_ℚ}
use Rattle.hp_math.proofs.Field.{+ℚ-neg_ℚ, ≤ℚ_refl, le_ℚ-true, lt_ℚ-true}
use Rattle.hp_tree.specs.declared.problem.Cmp.{Cmp}
use Rattle.hp_tree.specs.declared.problem.Cmp.TheVariants.{Le, Lt, Eq, Ne, Ge, Gt}
use Rattle.hp_tree.specs.declared.problem.Sort.{Sort}
use Rattle.hp_tree.specs.declared.problem.Sort.TheVariants.{Idx, Ptr}
use Rattle.hp_tree.specs.declared.problem.Atom.{Atom}
use Rattle.hp_tree.specs.Value.{Word, compares}
use Rattle.hp_tree.proofs.Compares.{le_ℚ-from, lt_ℚ-from, eq_ℚ-from, eq_ℚ-true, less_differs, more_differs, not_true, one_less, compares-signed, is_true}
use Rattle.hp_terms.specs.Sorting.{forms_of, has_form, is_equation, is_sorted, relates}
use Rattle.hp_lit.specs.declared.literal.Name.{Name}
use Rattle.hp_lit.specs.declared.literal.Rel.{Rel}
use Rattle.hp_lit.specs.declared.literal.Rel.TheVariants as rel
use Rattle.hp_lit.specs.Fit.{IsIdxSide}
use Rattle.hp_lit.specs.Sorts.{HaveSorts}
use Rattle.hp_lit.specs.Truth.{Values, name_value, optional_value, Compares, IdxIsTrue, LineIsTrue}
use Rattle.hp_lit.specs.Words.{scope_over}
use Rattle.hp_index.specs.declared.form.IndexForm.{IndexForm}
use Rattle.hp_index.specs.Forms.{index_of}
use Rattle.hp_index.specs.Laws.{FormLiteralsCompare, LiteralsAreTrueWithAtoms, PtrLiteralsAreTrueWithAtoms}
use Rattle.hp_tree.specs.Sides.{signed}
use Rattle.hp_index.specs.Literals.{cancel, compared, form_literals, literals}
use Rattle.hp_index.specs.Pointers.{asks_same, pointer_of, ptr_literals}
use Rattle.hp_index.specs.Values.{form_value}
use Rattle.hp_index.proofs.Named.{term_base}
use Rattle.hp_index.proofs.Numbers.{whole-whole}
use Rattle.hp_index.proofs.Semantics.{pointer_value, term_value}
use Rattle.hp_index.proofs.Sides.{le-bound, bound-le, lt-bound, bound-lt, eq-bound, bound-eq}

-- ---- literals of forms
module _ (v : Values) where
  meet : (left right : Option Name) → cancel left right ≡ true → optional_value v left ≡ optional_value v right
  meet None right e = absurd (cc)
  meet (Some left) None e = absurd (cc)
  meet (Some left) (Some right) e = ap (name_value v) (eqb-true left.0 right.0 e)

  -- names that cancel leave the difference as it is
  sides : (r : Rel) (l m : IndexForm) → optional_value v (compared r l m).left -ℚ optional_value v (compared r l m).right ≡ optional_value v l.base -ℚ optional_value v m.base
  sides r l m = (elim (cancel l.base m.base) as (λ t. cancel l.base m.base ≡ t
      → optional_value v (cond t None l.base) -ℚ optional_value v (cond t None m.base) ≡ optional_value v l.base -ℚ optional_value v m.base) [
        | true ↦ λ t. +ℚ-neg_ℚ (whole (pos 0)) ∙ sym (+ℚ-neg_ℚ (optional_value v m.base)) ∙ ap (λ x. x -ℚ optional_value v m.base) (sym (meet l.base m.base t))
        | false ↦ λ t. refl
      ]) refl

  -- the form has a name with a whole value, or no name
  abbrev IsWholeForm : IndexForm → Type 0
  IsWholeForm f = is_whole (optional_value v f.base) ≡ true

  -- ---- one literal
  literal_true : (r : Rel) (l m : IndexForm) → IsWholeForm l → IsWholeForm m → Compares r (form_value v l) (form_value v m) → IdxIsTrue v (compared r l m)
  literal_true rel.Le l m p q h =
      inl (refl, subst (λ d. d ≤ℚ whole (compared rel.Le l m).bound) (sym (sides rel.Le l m)) (le-bound l.offset m.offset (optional_value v l.base) (optional_value v m.base) h))
  literal_true rel.Lt l m p q h =
      inl (refl, subst (λ d. d ≤ℚ whole (compared rel.Lt l m).bound) (sym (sides rel.Lt l m)) (lt-bound l.offset m.offset (optional_value v l.base) (optional_value v m.base) p q h))
  literal_true rel.Eq l m p q h = inr (sides rel.Eq l m ∙ eq-bound l.offset m.offset (optional_value v l.base) (optional_value v m.base) h)

  literal_says : (r : Rel) (l m : IndexForm) → IsWholeForm l → IsWholeForm m → IdxIsTrue v (compared r l m) → Compares r (form_value v l) (form_value v m)
  literal_says rel.Le l m p q (inl h) = bound-le l.offset m.offset (optional_value v l.base) (optional_value v m.base) (subst (λ d. d ≤ℚ whole (compared rel.Le l m).bound) (sides rel.Le l m) h.1)
  literal_says rel.Le l m p q (inr h) =
      bound-le l.offset m.offset (optional_value v l.base) (optional_value v m.base)
      (subst (λ d. d ≤ℚ whole (compared rel.Le l m).bound) (sym (sym (sides rel.Le l m) ∙ h)) (≤ℚ_refl (whole (compared rel.Le l m).bound)))
  literal_says rel.Lt l m p q (inl h) =
      bound-lt l.offset m.offset (optional_value v l.base) (optional_value v m.base) p q (subst (λ d. d ≤ℚ whole (compared rel.Lt l m).bound) (sides rel.Lt l m) h.1)
  literal_says rel.Lt l m p q (inr h) =
      bound-lt l.offset m.offset (optional_value v l.base) (optional_value v m.base) p q
      (subst (λ d. d ≤ℚ whole (compared rel.Lt l m).bound) (sym (sym (sides rel.Lt l m) ∙ h)) (≤ℚ_refl (whole (compared rel.Lt l m).bound)))
  literal_says rel.Eq l m p q (inl h) = let no = h.0 in absurd (cc)
  literal_says rel.Eq l m p q (inr h) = bound-eq l.offset m.offset (optional_value v l.base) (optional_value v m.base) (sym (sides rel.Eq l m) ∙ h)

  -- ---- the literals of a relation
  literals_true : (cmp : Cmp) (l m : IndexForm) → IsWholeForm l → IsWholeForm m → compares cmp (form_value v l) (form_value v m) ≡ true → LineIsTrue v (form_literals cmp l m)
  literals_true Le l m p q h = inl (literal_true rel.Le l m p q (le_ℚ-true _ _ h))
  literals_true Lt l m p q h = inl (literal_true rel.Lt l m p q (lt_ℚ-true _ _ h))
  literals_true Eq l m p q h = inl (literal_true rel.Eq l m p q (eq_ℚ-true _ _ h))
  literals_true Ne l m p q h = by (one_less (form_value v l) (form_value v m) (not_true (eq_ℚ (form_value v l) (form_value v m)) h))
    where
      by : ((form_value v l <ℚ form_value v m) ⊎ (form_value v m <ℚ form_value v l)) → LineIsTrue v (form_literals Ne l m)
      by (inl g) = inl (literal_true rel.Lt l m p q g)
      by (inr g) = inr (inl (literal_true rel.Lt m l q p g))
  literals_true Ge l m p q h = inl (literal_true rel.Le m l q p (le_ℚ-true _ _ h))
  literals_true Gt l m p q h = inl (literal_true rel.Lt m l q p (lt_ℚ-true _ _ h))

  literals_say : (cmp : Cmp) (l m : IndexForm) → IsWholeForm l → IsWholeForm m → LineIsTrue v (form_literals cmp l m) → compares cmp (form_value v l) (form_value v m) ≡ true
  literals_say Le l m p q (inl h) = le_ℚ-from _ _ (literal_says rel.Le l m p q h)
  literals_say Le l m p q (inr h) = absurd h
  literals_say Lt l m p q (inl h) = lt_ℚ-from _ _ (literal_says rel.Lt l m p q h)
  literals_say Lt l m p q (inr h) = absurd h
  literals_say Eq l m p q (inl h) = eq_ℚ-from _ _ (literal_says rel.Eq l m p q h)
  literals_say Eq l m p q (inr h) = absurd h
  literals_say Ne l m p q (inl h) = less_differs (form_value v l) (form_value v m) (literal_says rel.Lt l m p q h)
  literals_say Ne l m p q (inr (inl h)) = more_differs (form_value v l) (form_value v m) (literal_says rel.Lt m l q p h)
  literals_say Ne l m p q (inr (inr h)) = absurd h
  literals_say Ge l m p q (inl h) = le_ℚ-from _ _ (literal_says rel.Le m l q p h)
  literals_say Ge l m p q (inr h) = absurd h
  literals_say Gt l m p q (inl h) = lt_ℚ-from _ _ (literal_says rel.Lt m l q p h)
  literals_say Gt l m p q (inr h) = absurd h

-- a name of sort idx has a whole value, and so has none
side_whole : (sorts : List Sort) (v : Values) (o : Option Name) → HaveSorts sorts v → IsIdxSide sorts o → is_whole (optional_value v o) ≡ true
side_whole sorts v None have e = whole-whole (pos 0)
side_whole sorts v (Some name) have e = have name.0 Idx e

pub form_literals_compare : FormLiteralsCompare
form_literals_compare sorts v cmp l m have left right =
    let p = side_whole sorts v l.base have left in
    let q = side_whole sorts v m.base have right in
    (literals_say v cmp l m p q, literals_true v cmp l m p q)

-- ---- atoms
module _ {P : Type 0} (cmp : Cmp) (a b : ℚ) where
  -- what is true where a relation or its negation is, is true where the relation is true or false
  signed_truth : (positive : Bool) → P ↔ (compares (signed positive cmp) a b ≡ true) → P ↔ (compares cmp a b ≡ positive)
  signed_truth positive h =
      let is = compares-signed positive cmp a b in
      (λ p. is.0 (h.0 p), λ e. h.1 (is.1 e))

-- an atom of a sort has two sides of that sort, and a relation on it
pub record IsSorted (words : List Word) (sorts : List Sort) (s : Sort) (atom : Atom) : Type 0 where
  pub left : has_form (forms_of (scope_over words sorts) atom.left) s ≡ true
  pub right : has_form (forms_of (scope_over words sorts) atom.right) s ≡ true
  pub relation : relates s atom.cmp ≡ true

pub sorted_parts : (words : List Word) (sorts : List Sort) (s : Sort) (atom : Atom) → is_sorted (scope_over words sorts) s atom ≡ true → IsSorted words sorts s atom
sorted_parts words sorts s atom e =
    let scope = scope_over words sorts in
    let h = and_parts (has_form (forms_of scope atom.left) s && has_form (forms_of scope atom.right) s) (relates s atom.cmp) e in
    let g = and_parts (has_form (forms_of scope atom.left) s) (has_form (forms_of scope atom.right) s) h.0 in
    record { left = g.0; right = g.1; relation = h.1 }

pub literals_are_true_with_atoms : LiteralsAreTrueWithAtoms
literals_are_true_with_atoms words sorts v env functions positive atom agrees have sorted =
    let s = sorted_parts words sorts Idx atom sorted in
    let l = index_of words atom.left in
    let m = index_of words atom.right in
    let x = term_value words sorts v env functions agrees atom.left s.left in
    let y = term_value words sorts v env functions agrees atom.right s.right in
    let truth = signed_truth {P = LineIsTrue v (literals words positive atom)} atom.cmp (form_value v l) (form_value v m) positive
    (form_literals_compare sorts v (signed positive atom.cmp) l m have ((term_base words sorts atom.left).index s.left) ((term_base words sorts atom.right).index s.right)) in
    subst (λ (b : Bool). LineIsTrue v (literals words positive atom) ↔ (b ≡ positive)) (λ i. compares atom.cmp (sym x i) (sym y i)) truth

-- ---- pointers
not_false : (b : Bool) → not b ≡ false → b ≡ true
not_false true e = refl
not_false false e = absurd (cc)

equation_signed : (positive : Bool) (cmp : Cmp) → is_equation cmp ≡ true → is_equation (signed positive cmp) ≡ true
equation_signed true cmp e = e
equation_signed false Le e = absurd (cc)
equation_signed false Lt e = absurd (cc)
equation_signed false Eq e = refl
equation_signed false Ne e = refl
equation_signed false Ge e = absurd (cc)
equation_signed false Gt e = absurd (cc)

differ : (a b : ℚ) → (a ≡ b → ⊥) → not (eq_ℚ a b) ≡ true
differ a b h = is_true (not (eq_ℚ a b)) (λ e. h (eq_ℚ-true a b (not_false (eq_ℚ a b) e)))

same_truth : (cmp : Cmp) (a b : ℚ) → is_equation cmp ≡ true → ((asks_same cmp ≡ true) ↔ (a ≡ b)) ↔ (compares cmp a b ≡ true)
same_truth Le a b e = absurd (cc)
same_truth Lt a b e = absurd (cc)
same_truth Eq a b e = (λ h. eq_ℚ-from a b (h.0 refl), λ t. (λ s. eq_ℚ-true a b t, λ s. refl))
same_truth Ne a b e = (
  λ h. differ a b (λ s. let no = h.1 s in cc),
  λ t. (λ s. absurd (cc), λ s. let yes = eq_ℚ-from a b s in absurd (cc)),
)
same_truth Ge a b e = absurd (cc)
same_truth Gt a b e = absurd (cc)

one_line : {P : Type 0} {Q : Type 0} → P ↔ Q → (P ⊎ ⊥) ↔ Q
one_line {P} {Q} h = (by, λ q. inl (h.1 q))
  where
    by : P ⊎ ⊥ → Q
    by (inl p) = h.0 p
    by (inr p) = absurd p

pub ptr_literals_are_true_with_atoms : PtrLiteralsAreTrueWithAtoms
ptr_literals_are_true_with_atoms words sorts v env functions positive atom agrees sorted =
    let s = sorted_parts words sorts Ptr atom sorted in
    let a = optional_value v (pointer_of words atom.left) in
    let b = optional_value v (pointer_of words atom.right) in
    let x = pointer_value words sorts v env functions agrees atom.left s.left in
    let y = pointer_value words sorts v env functions agrees atom.right s.right in
    let truth = signed_truth {P = LineIsTrue v (ptr_literals words positive atom)} atom.cmp a b positive
    (one_line (same_truth (signed positive atom.cmp) a b (equation_signed positive atom.cmp s.relation))) in
    subst (λ (t : Bool). LineIsTrue v (ptr_literals words positive atom) ↔ (t ≡ positive)) (λ i. compares atom.cmp (sym x i) (sym y i)) truth
