-- The rows of points fit the rules on sorts.
use Rattle.std.proofs.Common.{ℕ, ◌≡◌, ◌≤◌, List, [], ◌∷◌, true, false, ◌&&◌, IsTrue, refl, ap, ◌∙◌, sym, cond, Some, pos, arith, nat_eq}
use Rattle.std.specs.List.{All}
use Rattle.std.proofs.lemmas.Int.{ints}
use Rattle.std.proofs.lemmas.List.Elements.{All-nil, All-cons, All-head, All-tail, All-map, All-contains}
use Rattle.hp_math.specs.Rational.{ℚ, whole, is_whole, le_ℚ, lt_ℚ, neg_ℚ}
use Rattle.hp_math.proofs.Field.{≤ℚ_refl, <ℚ_irrefl, le_ℚ-true, lt_ℚ-true}
use Rattle.hp_math.proofs.Laws.{whole-<}
use Rattle.hp_math.proofs.Parts.{neg_ℚ-parts, whole-parts}
use Rattle.hp_tree.specs.declared.term.Term.{Term, Name, Number, Neg, fold-roll-Term}
use Rattle.hp_tree.specs.declared.term.Term.TheOpen.{Term-F}
use Rattle.hp_tree.specs.declared.term.Term.TheVariants.{rolls-Number, rolls-Name, rolls-Neg}
use Rattle.hp_tree.specs.declared.problem.Atom.{Atom}
use Rattle.hp_tree.specs.declared.problem.Cmp.{Cmp}
use Rattle.hp_tree.specs.declared.problem.Cmp.TheVariants.{Lt, Eq}
use Rattle.hp_tree.specs.declared.problem.Sort.{Sort}
use Rattle.hp_tree.specs.declared.problem.Sort.TheVariants.{Num, Idx, Ptr}
use Rattle.hp_tree.specs.Sorted.{is_of_sort}
use Rattle.hp_tree.specs.Value.{Word}
use Rattle.hp_tree.proofs.Compares.{le_ℚ-from, lt_ℚ-from}
use Rattle.hp_terms.specs.declared.forms.Forms.{Forms}
use Rattle.hp_terms.specs.Scope.{Scope}
use Rattle.hp_terms.specs.Sorting.{forms_of, forms_step, has_form, name_forms, number_forms, negation_forms, sort_forms, first_sort, first_step, sort_of, relates, is_sorted, atom_is_sorted}
use Rattle.hp_terms.specs.Laws.{AreOfSort}
use Rattle.hp_local.specs.Ordered.{step_rows, last_value}
use Rattle.hp_local.specs.Rows.{argument_words, number_term, point_guard, point_row, first_facts}
use Rattle.hp_local.specs.Sorts.{IsSortedRow, HaveSorts, IsTableScope, IsSortedFact, NumbersAreSorted, PointRowsAreSorted, FreeTablesAreSorted, IsSortedPoint, StepTablesAreSorted}
use Rattle.hp_local.proofs.Tests.{both}
use Rattle.hp_local.proofs.Lists.{All-by}
use Rattle.hp_local.proofs.Rows.{first_among}
use Rattle.std.specs.Prelude.{Option, codes}
use Rattle.hp_math.specs.Steps.{Point}

-- ---- numbers
name_is : (scope : Scope) (word : Word) → forms_of scope (Name word) ≡ name_forms (scope.name word)
name_is scope word = ap (forms_of scope) (sym (rolls-Name word)) ∙ fold-roll-Term Forms (forms_step scope) (Term-F.Name word)

number_is : (scope : Scope) (n : ℚ) → forms_of scope (Number n) ≡ number_forms scope.pointer n
number_is scope n = ap (forms_of scope) (sym (rolls-Number n)) ∙ fold-roll-Term Forms (forms_step scope) (Term-F.Number n)

neg_is : (scope : Scope) (n : ℚ) → forms_of scope (Neg (Number n)) ≡ negation_forms (number_forms scope.pointer n)
neg_is scope n = ap (forms_of scope) (sym (rolls-Neg (Number n))) ∙ fold-roll-Term Forms (forms_step scope) (Term-F.Neg (Number n)) ∙ ap negation_forms (number_is scope n)

whole_negation : (n : ℚ) → is_whole n ≡ true → is_whole (neg_ℚ n) ≡ true
whole_negation n h = ap (λ d. nat_eq d 1) (neg_ℚ-parts n).1 ∙ h

not_negative : (n : ℚ) → le_ℚ (whole (pos 0)) n ≡ true → lt_ℚ n (whole (pos 0)) ≡ true → ⊥
not_negative n h t = <ℚ_irrefl _ _ (lt_ℚ-true n (whole (pos 0)) t) (le_ℚ-true (whole (pos 0)) n h)

pub numbers_are_sorted : NumbersAreSorted
numbers_are_sorted size sorts scope table sort n h =
    (elim (lt_ℚ n (whole (pos 0))) as (λ b. lt_ℚ n (whole (pos 0)) ≡ b → has_form (forms_of scope (cond b (Neg (Number (neg_ℚ n))) (Number n))) sort ≡ true) [
      | true ↦ λ t. ap (λ f. has_form f sort) (neg_is scope (neg_ℚ n)) ∙ below sort h t
      | false ↦ λ t. ap (λ f. has_form f sort) (number_is scope n) ∙ above sort h
    ]) refl
  where
    below : (sort : Sort) → IsTrue (is_of_sort size sort n) → lt_ℚ n (whole (pos 0)) ≡ true → has_form (negation_forms (number_forms scope.pointer (neg_ℚ n))) sort ≡ true
    below Num h t = refl
    below Idx h t = whole_negation n h
    below Ptr h t = absurd (not_negative n (both _ _ (both (is_whole n && le_ℚ (whole (pos 0)) n) (lt_ℚ n (whole (pos size))) h).0).1 t)

    above : (sort : Sort) → IsTrue (is_of_sort size sort n) → has_form (number_forms scope.pointer n) sort ≡ true
    above Num h = refl
    above Idx h = h
    above Ptr h = table.pointers n h

-- ---- guards
own_sort : (sort : Sort) → has_form (sort_forms sort) sort ≡ true
own_sort Num = refl
own_sort Idx = refl
own_sort Ptr = refl

equations : (sort : Sort) → relates sort Eq ≡ true
equations Num = refl
equations Idx = refl
equations Ptr = refl

atom_sorted : (scope : Scope) (sort : Sort) (word : Word) (cmp : Cmp) (right : Term) → scope.name word ≡ Some sort → has_form (forms_of scope right) sort ≡ true → relates sort cmp ≡ true
    → atom_is_sorted scope (record { left = Name word; cmp = cmp; right = right }) ≡ true
atom_sorted scope sort word cmp right named fits related =
    let atom : Atom = record { left = Name word; cmp = cmp; right = right } in
    let first : first_sort scope (Name word) ≡ Some sort =
    ap (first_sort scope) (sym (rolls-Name word)) ∙ fold-roll-Term (Option Sort) (first_step scope) (Term-F.Name word) ∙ named in
    let of : sort_of scope atom ≡ sort = rw first refl in
    let left : has_form (forms_of scope (Name word)) sort ≡ true = ap (λ f. has_form f sort) (name_is scope word ∙ ap name_forms named) ∙ own_sort sort in
    ap (λ s. is_sorted scope s atom) of ∙ rw (left, fits, related) refl

guard_sorted : (size : ℕ) (sorts all : List Sort) (scope : Scope) (words : List Word) (xs : List ℚ) → IsTableScope size all scope → HaveSorts scope words sorts → AreOfSort size sorts xs
    → All (λ atom. atom_is_sorted scope atom ≡ true) (point_guard words xs)
guard_sorted size sorts all scope [] xs table named h = All-nil (λ (atom : Atom). atom_is_sorted scope atom ≡ true)
guard_sorted size sorts all scope (w ∷ words) [] table named h = All-nil (λ (atom : Atom). atom_is_sorted scope atom ≡ true)
guard_sorted size [] all scope (w ∷ words) (x ∷ xs) table named h = absurd h
guard_sorted size (s ∷ sorts) all scope (w ∷ words) (x ∷ xs) table named h =
    All-cons (λ (atom : Atom). atom_is_sorted scope atom ≡ true) (record { left = Name w; cmp = Eq; right = number_term x }) (point_guard words xs)
    (atom_sorted scope s w Eq (number_term x) named.0 (numbers_are_sorted size all scope table s x h.0) (equations s))
    (guard_sorted size sorts all scope words xs table named.1 h.1)

-- ---- rows
pub point_rows_are_sorted : PointRowsAreSorted
point_rows_are_sorted size sorts result scope facts table fit =
    All-map (IsSortedRow scope result) point_row (first_facts facts)
    (All-by (λ k. IsSortedRow scope result (point_row k)) (first_facts facts) (λ k m.
    let h = All-contains (IsSortedFact size sorts result) facts k fit (first_among facts k m) in
    record {
      guard = guard_sorted size sorts sorts scope argument_words k.args table table.arguments h.args;
      value = numbers_are_sorted size sorts scope table result k.value h.value;
    }))

-- 0 is a value of each sort, null among the pointers
pub zero_fits : (size : ℕ) (sort : Sort) → 1 ≤ size → IsTrue (is_of_sort size sort (whole (pos 0)))
zero_fits size Num h = refl
zero_fits size Idx h = ap (λ d. nat_eq d 1) (whole-parts (pos 0)).1
zero_fits size Ptr h =
    let w : is_whole (whole (pos 0)) ≡ true = ap (λ d. nat_eq d 1) (whole-parts (pos 0)).1 in
    let l : le_ℚ (whole (pos 0)) (whole (pos 0)) ≡ true = le_ℚ-from _ _ (≤ℚ_refl (whole (pos 0))) in
    let b : lt_ℚ (whole (pos 0)) (whole (pos size)) ≡ true = lt_ℚ-from _ _ ((whole-< (pos 0) (pos size)).1 (omega (arith, ints))) in
    rw (w, l, b) refl

pub zero_sorted : (size : ℕ) (sorts : List Sort) (scope : Scope) → IsTableScope size sorts scope → 1 ≤ size → (sort : Sort) → has_form (forms_of scope (Number (whole (pos 0)))) sort ≡ true
zero_sorted size sorts scope table h sort = ap (λ f. has_form f sort) (number_is scope (whole (pos 0))) ∙ by sort
  where
    by : (sort : Sort) → has_form (number_forms scope.pointer (whole (pos 0))) sort ≡ true
    by Num = refl
    by Idx = zero_fits size Idx h
    by Ptr = table.pointers (whole (pos 0)) (zero_fits size Ptr h)

pub free_tables_are_sorted : FreeTablesAreSorted
free_tables_are_sorted size sorts result scope func count facts some table fit = record {
  rows = point_rows_are_sorted size sorts result scope facts table fit;
  otherwise = zero_sorted size sorts scope table some result;
}

-- ---- step tables
abbrev IsSortedAtom : Scope → Atom → Type 0
IsSortedAtom scope atom = atom_is_sorted scope atom ≡ true

step_rows_sorted : (size : ℕ) (sort result : Sort) (scope : Scope) → relates sort Lt ≡ true → IsTableScope size (sort ∷ []) scope
    → (points : List Point) → All (IsSortedPoint size sort result) points → All (IsSortedRow scope result) (step_rows points)
step_rows_sorted size sort result scope related table [] h = All-nil (IsSortedRow scope result)
step_rows_sorted size sort result scope related table (p ∷ []) h = All-nil (IsSortedRow scope result)
step_rows_sorted size sort result scope related table (p ∷ q ∷ points) h =
    let this = All-head (IsSortedPoint size sort result) p (q ∷ points) h in
    let rest = All-tail (IsSortedPoint size sort result) p (q ∷ points) h in
    let next = All-head (IsSortedPoint size sort result) q points rest in
    let atom : Atom = record { left = Name (codes "$1"); cmp = Lt; right = number_term q.at } in
    let fits = numbers_are_sorted size (sort ∷ []) scope table sort q.at next.at in
    All-cons (IsSortedRow scope result) (record { guard = atom ∷ []; value = number_term p.value }) (step_rows (q ∷ points))
    (record {
      guard = All-cons (IsSortedAtom scope) atom [] (atom_sorted scope sort (codes "$1") Lt (number_term q.at) table.arguments.0 fits related) (All-nil (IsSortedAtom scope));
      value = numbers_are_sorted size (sort ∷ []) scope table result p.value this.value;
    })
    (step_rows_sorted size sort result scope related table (q ∷ points) rest)

last_sorted : (size : ℕ) (sort result : Sort) (scope : Scope) → 1 ≤ size → IsTableScope size (sort ∷ []) scope
    → (points : List Point) → All (IsSortedPoint size sort result) points → has_form (forms_of scope (last_value points)) result ≡ true
last_sorted size sort result scope some table [] h = zero_sorted size (sort ∷ []) scope table some result
last_sorted size sort result scope some table (p ∷ []) h =
    numbers_are_sorted size (sort ∷ []) scope table result p.value (All-head (IsSortedPoint size sort result) p [] h).value
last_sorted size sort result scope some table (p ∷ q ∷ points) h = last_sorted size sort result scope some table (q ∷ points) (All-tail (IsSortedPoint size sort result) p (q ∷ points) h)

pub step_tables_are_sorted : StepTablesAreSorted
step_tables_are_sorted size sort result scope func points some related table fit = record {
  rows = step_rows_sorted size sort result scope related table points fit;
  otherwise = last_sorted size sort result scope some table points fit;
}
