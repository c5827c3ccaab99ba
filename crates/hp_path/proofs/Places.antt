-- Values put in the places of their names.
use Rattle.std.proofs.Common.{◌≡◌, ℕ, zero, suc, ◌+◌, ◌^◌, ◌<◌, ◌≤ℤ◌, ◌+ℤ◌, nat_eq, ◌++◌, ◌≢◌, inl, inr, refl, sym, ◌∙◌, ap, subst, arith, pos, true, cond, List, [], ◌∷◌, length, map, get_or, set, replicate, Some}
use Rattle.std.specs.Prelude.{slice_get, slice_index}
use Rattle.std.specs.List.{All}
use Rattle.std.specs.List.Sorted.{IsStrictlyIncreasing}
use Rattle.std.proofs.lemmas.Bool.{cases_eq, eq-eqb, ne_eqb}
use Rattle.std.proofs.lemmas.Int.{ints}
use Rattle.std.proofs.lemmas.List.{get_or-map, get_or-set_other, get_or-set_same, length-map, length-set}
use Rattle.std.proofs.lemmas.List.Elements.{All-append, All-cons, All-head, All-nil, All-tail, All-weaker}
use Rattle.hp_math.specs.Rational.{ℚ, is_whole, ratio, whole}
use Rattle.hp_math.proofs.Rational.{ratio-kept}
use Rattle.hp_math.proofs.Field.{≤ℚ_refl}
use Rattle.hp_tree.specs.declared.problem.Sort.{Sort}
use Rattle.hp_tree.specs.declared.problem.Sort.TheVariants.{Num, Idx, Ptr}
use Rattle.hp_lit.specs.declared.valuation.NameValue.{NameValue}
use Rattle.hp_lit.specs.Sorts.{IsOfSort, AreOfSorts}
use Rattle.hp_lit.specs.Truth.{Values, name_value}
use Rattle.hp_diff.specs.Rows.{IsSmallWhole}
use Rattle.hp_descent.specs.Values.{value_in}
use Rattle.hp_path.specs.Decided.{AreSmallIdx}
use Rattle.hp_path.specs.Placed.{AreApart, IsValueOf, IsValueOver, put_all}

-- ---- the sorts of values
of_sort : (t : Sort) (x : ℚ) → IsValueOf t x → IsOfSort t x
of_sort Num x h = tt
of_sort Idx x h = h.whole
of_sort Ptr x h = h

at_name : (ss : List Sort) (v : Values) (n : ℕ) (t : Sort) (x : ℚ) → AreOfSorts ss v → slice_get ss n ≡ Some t → IsOfSort t x → AreOfSorts ss (set v n x)
at_name [] [] n t x h s w = cc
at_name [] (y ∷ ys) n t x h s w = absurd h
at_name (u ∷ ss) [] n t x h s w = absurd h
at_name (u ∷ ss) (y ∷ ys) zero t x h s w = let e : t ≡ u = cc in (subst (λ k. IsOfSort k x) e w, h.1)
at_name (u ∷ ss) (y ∷ ys) (suc n) t x h s w = (h.0, at_name ss ys n t x h.1 s w)

set_sorted : (ss : List Sort) (v : Values) (nv : NameValue) → AreOfSorts ss v → IsValueOver ss nv → AreOfSorts ss (set v nv.name.0 nv.value)
set_sorted ss v nv h w = at_name ss v nv.name.0 w.sort nv.value h w.at (of_sort w.sort nv.value w.value)

pub put_sorted : (ss : List Sort) (v : Values) (nvs : List NameValue) → AreOfSorts ss v → All (IsValueOver ss) nvs → AreOfSorts ss (put_all v nvs)
put_sorted ss v [] h all = h
put_sorted ss v (nv ∷ nvs) h all =
    put_sorted ss (set v nv.name.0 nv.value) nvs (set_sorted ss v nv h (All-head (IsValueOver ss) nv nvs all)) (All-tail (IsValueOver ss) nv nvs all)

-- a name of a sort is a name
within_sorts : (ss : List Sort) (v : Values) (n : ℕ) (t : Sort) → AreOfSorts ss v → slice_get ss n ≡ Some t → n < length v
within_sorts [] v n t h s = cc
within_sorts (u ∷ ss) [] n t h s = absurd h
within_sorts (u ∷ ss) (y ∷ ys) zero t h s = omega arith
within_sorts (u ∷ ss) (y ∷ ys) (suc n) t h s = omega (arith, within_sorts ss ys n t h.1 s)

pub all_within : (ss : List Sort) (v : Values) (nvs : List NameValue) → AreOfSorts ss v → All (IsValueOver ss) nvs → All (λ nv. nv.name.0 < length v) nvs
all_within ss v nvs h all = All-weaker (IsValueOver ss) (λ nv. nv.name.0 < length v) (λ nv w. within_sorts ss v nv.name.0 w.sort h w.at) nvs all

-- ---- 0 in all places
-- 0 in lowest terms
zero_kept : ((whole (pos 0)).num ≡ pos 0) × ((whole (pos 0)).den ≡ 1)
unfolding whole
zero_kept = ratio-kept (pos 0) 1 (omega arith) (λ e a b h. omega arith)

zero_whole : is_whole (whole (pos 0)) ≡ true
zero_whole = ap (λ d. nat_eq d 1) zero_kept.1

pub zero_is : (q : ℚ) → q ≡ ratio (pos 0) 1 → q ≡ whole (pos 0)
unfolding whole
zero_is q h = h

pub zeros_sorted : (ss : List Sort) → AreOfSorts ss (replicate (length ss) (whole (pos 0)))
zeros_sorted [] = tt
zeros_sorted (Num ∷ ss) = (tt, zeros_sorted ss)
zeros_sorted (Idx ∷ ss) = (zero_whole, zeros_sorted ss)
zeros_sorted (Ptr ∷ ss) = ((zero_whole, ≤ℚ_refl (whole (pos 0))), zeros_sorted ss)

zero_small : IsSmallWhole (whole (pos 0))
zero_small =
    let e = zero_kept.0 in
    record { whole = zero_whole; low = subst (λ n. pos 0 ≤ℤ (n +ℤ pos (10 ^ 37))) (sym e) (omega (arith, ints)); high = subst (λ n. n ≤ℤ pos (10 ^ 37)) (sym e) (omega (arith, ints)) }

zero_at : (count n : ℕ) → name_value (replicate count (whole (pos 0))) n ≡ whole (pos 0)
zero_at zero n = refl
zero_at (suc count) zero = refl
zero_at (suc count) (suc n) = zero_at count n

-- ---- the value of a name
-- names of none of which the value is set keep theirs
pub put_apart : (v : Values) (nvs : List NameValue) (n : ℕ) → All (λ m. n ≢ m.name.0) nvs → name_value (put_all v nvs) n ≡ name_value v n
put_apart v [] n h = refl
put_apart v (nv ∷ nvs) n h =
    put_apart (set v nv.name.0 nv.value) nvs n (All-tail (λ m. n ≢ m.name.0) nv nvs h)
    ∙ get_or-set_other v nv.name.0 n nv.value (whole (pos 0)) (All-head (λ (m : NameValue). n ≢ m.name.0) nv nvs h)

pub put_value : (v : Values) (nvs : List NameValue) (n : ℕ) → All (λ nv. nv.name.0 < length v) nvs → AreApart nvs → name_value v n ≡ whole (pos 0) → name_value (put_all v nvs) n ≡ value_in nvs n
put_value v [] n w a z = z
put_value v (nv ∷ nvs) n w a z =
    let next = set v nv.name.0 nv.value in
    let within = λ (m : NameValue). m.name.0 < length v in
    elim (cases_eq nv.name.0 n) [
      | inl e ↦
          put_apart next nvs n (subst (λ k. All (λ (m : NameValue). k ≢ m.name.0) nvs) e a.0)
          ∙ ap (name_value next) (sym e)
          ∙ get_or-set_same v nv.name.0 nv.value (whole (pos 0)) (All-head within nv nvs w)
          ∙ ap (λ b. cond b nv.value (value_in nvs n)) (sym (eq-eqb nv.name.0 n e))
      | inr ne ↦
          put_value next nvs n (subst (λ k. All (λ (m : NameValue). m.name.0 < k) nvs) (sym (length-set v nv.name.0 nv.value)) (All-tail within nv nvs w)) a.1
          (get_or-set_other v nv.name.0 n nv.value (whole (pos 0)) (λ e. ne (sym e)) ∙ z)
          ∙ ap (λ b. cond b nv.value (value_in nvs n)) (sym (ne_eqb nv.name.0 n ne))
    ]

pub all_values : (ss : List Sort) (nvs : List NameValue) (n : ℕ) → All (IsValueOver ss) nvs → AreApart nvs → name_value (put_all (replicate (length ss) (whole (pos 0))) nvs) n ≡ value_in nvs n
all_values ss nvs n o a =
    put_value (replicate (length ss) (whole (pos 0))) nvs n (all_within ss (replicate (length ss) (whole (pos 0))) nvs (zeros_sorted ss) o) a (zero_at (length ss) n)

-- ---- the value of a name in a list
value_small : (ss : List Sort) (nvs : List NameValue) (n : ℕ) → All (IsValueOver ss) nvs → slice_get ss n ≡ Some Idx → IsSmallWhole (value_in nvs n)
value_small ss [] n o s = zero_small
value_small ss (nv ∷ nvs) n o s =
    let rest = value_small ss nvs n (All-tail (IsValueOver ss) nv nvs o) s in
    elim (cases_eq nv.name.0 n) [
      | inl e ↦ subst (λ b. IsSmallWhole (cond b nv.value (value_in nvs n))) (sym (eq-eqb nv.name.0 n e)) (here nv e (All-head (IsValueOver ss) nv nvs o))
      | inr ne ↦ subst (λ b. IsSmallWhole (cond b nv.value (value_in nvs n))) (sym (ne_eqb nv.name.0 n ne)) rest
    ]
  where
    here : (nv : NameValue) → nv.name.0 ≡ n → IsValueOver ss nv → IsSmallWhole nv.value
    here nv e w =
        let f : slice_get ss n ≡ Some w.sort = subst (λ k. slice_get ss k ≡ Some w.sort) e w.at in
        let g : w.sort ≡ Idx = cc in
        subst (λ t. IsValueOf t nv.value) g w.value

pub values_small : (ss : List Sort) (nvs : List NameValue) (v : Values) → All (IsValueOver ss) nvs → ((n : ℕ) → name_value v n ≡ value_in nvs n) → AreSmallIdx ss v
values_small ss nvs v o g n s = subst IsSmallWhole (sym (g n)) (value_small ss nvs n o s)

-- a name of none of the first ones has its value among the rest
pub value_after : (xs ys : List NameValue) (n : ℕ) → All (λ m. n ≢ m.name.0) xs → value_in (xs ++ ys) n ≡ value_in ys n
value_after [] ys n h = refl
value_after (x ∷ xs) ys n h =
    ap (λ b. cond b x.value (value_in (xs ++ ys) n)) (ne_eqb x.name.0 n (λ e. All-head (λ (m : NameValue). n ≢ m.name.0) x xs h (sym e)))
    ∙ value_after xs ys n (All-tail (λ m. n ≢ m.name.0) x xs h)

-- each name has its value
pub values_own : (nvs : List NameValue) → AreApart nvs → All (λ nv. value_in nvs nv.name.0 ≡ nv.value) nvs
values_own [] a = All-nil _
values_own (nv ∷ nvs) a =
    All-cons (λ m. value_in (nv ∷ nvs) m.name.0 ≡ m.value) nv nvs
    (ap (λ b. cond b nv.value (value_in nvs nv.name.0)) (eq-eqb nv.name.0 nv.name.0 refl))
    (λ k d l. ap (λ b. cond b nv.value (value_in nvs (get_or nvs k d).name.0)) (ne_eqb nv.name.0 (get_or nvs k d).name.0 (a.0 k d l)) ∙ values_own nvs a.1 k d l)

-- ---- names apart
pub apart_append : (xs ys : List NameValue) → AreApart xs → AreApart ys → All (λ x. All (λ y. x.name.0 ≢ y.name.0) ys) xs → AreApart (xs ++ ys)
apart_append [] ys a b h = b
apart_append (x ∷ xs) ys a b h =
    let P = λ (x : NameValue). All (λ (y : NameValue). x.name.0 ≢ y.name.0) ys in
    (All-append (λ (y : NameValue). x.name.0 ≢ y.name.0) xs ys a.0 (All-head P x xs h), apart_append xs ys a.1 b (All-tail P x xs h))

-- ---- names that rise
rises : (n : ℕ) (ns : List ℕ) → IsStrictlyIncreasing (n ∷ ns) → (k : ℕ) → k < length ns → n < slice_index ns k
rises n ns h zero b = h 0 (omega arith)
rises n ns h (suc k) b =
    let a = rises n ns h k (omega arith) in
    let e : suc k + 1 ≡ suc (suc k) = omega arith in
    let s : slice_index ns k < slice_index ns (suc k) = subst (λ j. slice_index (n ∷ ns) (suc k) < slice_index (n ∷ ns) j) e (h (suc k) (omega arith)) in
    omega (arith, a, s)

rising_tail : (n : ℕ) (ns : List ℕ) → IsStrictlyIncreasing (n ∷ ns) → IsStrictlyIncreasing ns
rising_tail n ns h k b =
    let e : suc k + 1 ≡ suc (k + 1) = omega arith in
    subst (λ j. slice_index (n ∷ ns) (suc k) < slice_index (n ∷ ns) j) e (h (suc k) (omega arith))

pub rising_apart : (nvs : List NameValue) → IsStrictlyIncreasing (map (λ nv. nv.name.0) nvs) → AreApart nvs
rising_apart [] h = tt
rising_apart (nv ∷ nvs) h = (later, rising_apart nvs (rising_tail nv.name.0 (map (λ m. m.name.0) nvs) h))
  where
    later : All (λ m. nv.name.0 ≢ m.name.0) nvs
    later k d b =
        let ns = map (λ (m : NameValue). m.name.0) nvs in
        let e = get_or-map (λ (m : NameValue). m.name.0) nvs k d 0 b in
        let r : nv.name.0 < (get_or nvs k d).name.0 = subst (λ x. nv.name.0 < x) e (rises nv.name.0 ns h k (subst (λ x. k < x) (sym (length-map nvs (λ (m : NameValue). m.name.0))) b)) in
        (λ same. let z : nv.name.0 < nv.name.0 = subst (λ x. nv.name.0 < x) (sym same) r in omega arith)
