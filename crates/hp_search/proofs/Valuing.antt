-- Values that are given to names one after another.
use Rattle.std.proofs.Common.{◌≡◌, ℕ, zero, suc, ◌+◌, ◌<◌, ◌≤◌, ◌^◌, ◌+ℤ◌, ◌≤ℤ◌, ℤ, pos, refl, sym, ◌∙◌, ap, subst, arith, List, [], ◌∷◌, ◌++◌, length, take, get_or, Some, to_z, of_z}
use Rattle.std.specs.Int.{w128}
use Rattle.std.specs.Prelude.{slice_get, unsigned_abs}
use Rattle.std.specs.List.{All}
use Rattle.std.proofs.lemmas.Int.{ints}
use Rattle.std.proofs.lemmas.Bool.{eq-eqb}
use Rattle.std.proofs.lemmas.List.{take_all, take_more}
use Rattle.std.proofs.lemmas.List.Elements.{All-weaker}
use Rattle.hp_math.specs.Rational.{ℚ, ratio, whole, is_whole, ◌≤ℚ◌}
use Rattle.hp_math.proofs.Rational.{ratio-kept}
use Rattle.hp_tree.specs.declared.problem.Sort.{Sort}
use Rattle.hp_tree.specs.declared.problem.Sort.TheVariants.{Num, Idx, Ptr}
use Rattle.hp_lit.specs.declared.literal.Lit.{Lit}
use Rattle.hp_lit.specs.declared.literal.Lit.TheVariants as lit
use Rattle.hp_lit.specs.Fit.{IsFit}
use Rattle.hp_lit.specs.Sorts.{AreOfSorts, IsOfSort}
use Rattle.hp_lit.specs.Truth.{Values, IsTrueAt, name_value}
use Rattle.hp_leaf.specs.Check.{HasNarrowBound}
use Rattle.hp_diff.specs.Rows.{IsSmallWhole}
use Rattle.hp_path.specs.Decided.{AreSmallIdx, AreValuesFor}
use Rattle.hp_path.specs.Placed.{IsValueOf}
use Rattle.hp_search.specs.Lines.{IsSmallIndex}
use Rattle.hp_search.specs.inner.Spread.{AreValuesOf}
use Rattle.hp_search.proofs.Wholes.{whole_le}

-- ---- one value
small_whole : (n : ℤ) → IsSmallIndex n → IsSmallWhole (whole n)
unfolding whole
small_whole n h =
    let kept = ratio-kept n 1 (omega arith) (λ e above below h. absurd (omega arith)) in
    record {
      whole = eq-eqb (ratio n 1).den 1 kept.1;
      low = subst (λ m. pos 0 ≤ℤ (m +ℤ pos (10 ^ 37))) (sym kept.0) h.low;
      high = subst (λ m. m ≤ℤ pos (10 ^ 37)) (sym kept.0) h.high;
    }

-- numbers that went to bits and back
back : (n : ℤ) → IsSmallIndex n → to_z w128 (of_z w128 n) ≡ n
back n h = let low = h.low in let high = h.high in omega (arith, ints, low, high)

good : (s : Sort) (n : ℤ) (q : ℚ) → q ≡ whole n → IsSmallIndex n → (s ≡ Ptr → pos 0 ≤ℤ n) → IsValueOf s q
good Num n q e small from = tt
good Idx n q e small from = subst IsSmallWhole (sym e) (small_whole n small)
good Ptr n q e small from = subst (IsOfSort Ptr) (sym e) ((small_whole n small).whole, whole_le (pos 0) n (from refl))

pub value_good : (s : Sort) (n : ℤ) (q : ℚ) → q ≡ whole (to_z w128 (of_z w128 n)) → IsSmallIndex n → (s ≡ Ptr → pos 0 ≤ℤ n) → IsValueOf s q
value_good s n q e small from = good s n q (e ∙ ap whole (back n small)) small from

-- ---- values of all names
one_more : (ss : List Sort) (v : Values) (s : Sort) (x : ℚ) → AreValuesOf ss v → IsValueOf s x → AreValuesOf (ss ++ s ∷ []) (v ++ x ∷ [])
one_more [] [] s x h w = (w, tt)
one_more [] (y ∷ ys) s x h w = absurd h
one_more (t ∷ ss) [] s x h w = absurd h
one_more (t ∷ ss) (y ∷ ys) s x h w = (h.0, one_more ss ys s x h.1 w)

pub value_more : (ss : List Sort) (i : ℕ) (d : Sort) (old more : Values) (x : ℚ) → i < length ss → more ≡ old ++ x ∷ [] → IsValueOf (get_or ss i d) x → AreValuesOf (take i ss) old → AreValuesOf (take (i + 1) ss) more
value_more ss i d old more x b m w h =
    subst (λ ts. AreValuesOf ts more) (sym (take_more ss i d b)) (subst (AreValuesOf (take i ss ++ get_or ss i d ∷ [])) (sym m) (one_more (take i ss) old (get_or ss i d) x h w))

pub all_values : (ss : List Sort) (i : ℕ) (v : Values) → length ss ≤ i → AreValuesOf (take i ss) v → AreValuesOf ss v
all_values ss i v b h = subst (λ ts. AreValuesOf ts v) (take_all i ss b) h

of_sort : (s : Sort) (x : ℚ) → IsValueOf s x → IsOfSort s x
of_sort Num x h = tt
of_sort Idx x h = h.whole
of_sort Ptr x h = h

values_sorted : (ss : List Sort) (v : Values) → AreValuesOf ss v → AreOfSorts ss v
values_sorted [] [] h = tt
values_sorted [] (y ∷ ys) h = absurd h
values_sorted (s ∷ ss) [] h = absurd h
values_sorted (s ∷ ss) (y ∷ ys) h = (of_sort s y h.0, values_sorted ss ys h.1)

values_small : (ss : List Sort) (v : Values) → AreValuesOf ss v → AreSmallIdx ss v
values_small [] v h n e = cc
values_small (s ∷ ss) [] h n e = absurd h
values_small (s ∷ ss) (y ∷ ys) h zero e = let k : s ≡ Idx = cc in subst (λ t. IsValueOf t y) k h.0
values_small (s ∷ ss) (y ∷ ys) h (suc n) e = values_small ss ys h.1 n e

pub values_true : (ss : List Sort) (lits : List Lit) (v : Values) → AreValuesOf ss v → All (IsTrueAt v) lits → AreValuesFor ss lits v
values_true ss lits v h all = record { sorted = values_sorted ss v h; small = values_small ss v h; holds = all }

pub small_of : (ss : List Sort) (v : Values) → AreValuesOf ss v → AreSmallIdx ss v
small_of ss v h = values_small ss v h

-- ---- bounds of literals that can be decided
lit_narrow : (ss : List Sort) (l : Lit) → IsFit ss l → HasNarrowBound l
lit_narrow ss (lit.Num l) h = tt
lit_narrow ss (lit.Idx row) h = let low = h.bound.low in let high = h.bound.high in omega (arith, ints, low, high)
lit_narrow ss (lit.Ptr l) h = tt

pub lits_narrow : (ss : List Sort) (lits : List Lit) → All (IsFit ss) lits → All HasNarrowBound lits
lits_narrow ss lits h = All-weaker (IsFit ss) HasNarrowBound (lit_narrow ss) lits h
