-- Values by rank are in the universe.
use Rattle.std.proofs.Common.{◌≡◌, ◌≤◌, ◌<◌, ◌&&◌, ℕ, zero, suc, pos, true, false, IsTrue, Bool, List, [], ◌∷◌, length, Option, Some, None, refl, sym, ap, subst, arith}
use Rattle.std.proofs.lemmas.Int.{ints}
use Rattle.std.proofs.lemmas.Option.{slice_get_within}
use Rattle.hp_math.specs.Rational.{ℚ, whole, is_whole, le_ℚ, lt_ℚ, ◌<ℚ◌}
use Rattle.hp_math.proofs.Laws.{tests_decide, whole-<}
use Rattle.hp_tree.specs.declared.problem.Sort.{Sort}
use Rattle.hp_tree.specs.declared.problem.Sort.TheVariants.{Num, Idx, Ptr}
use Rattle.hp_tree.specs.Sorted.{is_of_sort}
use Rattle.hp_lit.specs.Sorts.{AreOfSorts, HaveSorts, IsOfSort}
use Rattle.hp_lit.specs.Truth.{Values, name_value}
use Rattle.hp_rank.specs.Ranks.{pointer, rank, ranked, universe_size}
use Rattle.hp_rank.proofs.Pointers.{has_rank, have_sorts as ranks_have_sorts, of_sort_ptr}
use Rattle.hp_class.specs.Groups.{AreInside}

-- ---- values of the names' sorts
pub have_sorts : (ss : List Sort) (v : Values) → AreOfSorts ss v → HaveSorts ss v
have_sorts [] v h n s e = absurd (cc)
have_sorts (t ∷ ss) [] h n s e = absurd h
have_sorts (t ∷ ss) (x ∷ xs) h zero s e = subst (λ (r : Sort). IsOfSort r x) (ap (λ (o : Option Sort). elim o [ None ↦ t | Some r ↦ r ]) e) h.0
have_sorts (t ∷ ss) (x ∷ xs) h (suc n) s e = have_sorts ss xs h.1 n s e

all_three : (a b c : Bool) → a ≡ true → b ≡ true → c ≡ true → ((a && b) && c) ≡ true
all_three true true c p q r = r
all_three true false c p q r = absurd (cc)
all_three false b c p q r = absurd (cc)

pointer_inside : (size : ℕ) (x : ℚ) → IsOfSort Ptr x → x <ℚ whole (pos size) → IsTrue (is_of_sort size Ptr x)
pointer_inside size x h below =
    all_three (is_whole x) (le_ℚ (whole (pos 0)) x) (lt_ℚ x (whole (pos size))) h.0 ((tests_decide.le (whole (pos 0)) x).1 h.1) ((tests_decide.lt x (whole (pos size))).1 below)

-- ---- values in the universe
-- each name has one where all names are among the first
pub ranks_inside : (first : ℕ) (sorts : List Sort) (v : Values) → length sorts ≤ first → HaveSorts sorts v → AreInside (universe_size first sorts v) sorts (ranked first sorts v)
ranks_inside first sorts v few have n Num e = refl
ranks_inside first sorts v few have n Idx e = ranks_have_sorts first sorts v have n Idx e
ranks_inside first sorts v few have n Ptr e =
    let size = universe_size first sorts v in
    let has = has_rank first sorts v n e in
    let r = rank first sorts v (pointer (name_value v n)) in
    let within : n < length sorts = slice_get_within sorts n Ptr e in
    let below : r < size = has.inside (omega arith) in
    subst (λ (x : ℚ). IsTrue (is_of_sort size Ptr x)) (sym has.value) (pointer_inside size (whole (pos r)) (of_sort_ptr r) ((whole-< (pos r) (pos size)).1 (omega (arith, ints, below))))
