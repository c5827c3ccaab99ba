-- Pointers and values by rank of one name more, and the pointers of names before a place and from there on.
use Rattle.std.proofs.Common.{◌≡◌, ℕ, zero, suc, ◌+◌, ◌<◌, ◌≤◌, ◌++◌, List, [], ◌∷◌, length, get_or, take, drop, refl, sym, ap, ◌∙◌, arith, append_assoc, append-nil, length-append, add-one}
use Rattle.std.specs.List.Sorted.{IsStrictlyIncreasing}
use Rattle.std.proofs.lemmas.List.Kept.{IsStrictlyIncreasing-filter}
use Rattle.std.specs.Prelude.{not}
use Rattle.hp_math.specs.Rational.{ℚ}
use Rattle.hp_tree.specs.declared.problem.Sort.{Sort}
use Rattle.hp_tree.specs.declared.problem.Sort.TheVariants.{Num, Idx, Ptr}
use Rattle.hp_lit.specs.Truth.{Values}
use Rattle.hp_lit.specs.Sorts.{AreOfSorts}
use Rattle.hp_rank.specs.Ranks.{is_among, outside, pointers, pointers_of, ranked_value, ranked_values, rising}
use Rattle.hp_rank.proofs.Rising.{increases, rises_rising, rising_few}

-- ---- one name more
pointers_next : (sorts : List Sort) (v : Values) (at : ℕ) (s : Sort) (x : ℚ) → at < length sorts → at < length v
    → pointers (take (suc at) sorts) (take (suc at) v) ≡ pointers (take at sorts) (take at v) ++ pointers_of (get_or sorts at s) (get_or v at x)
pointers_next [] v at s x h g = absurd (omega arith)
pointers_next (t ∷ ts) [] at s x h g = absurd (omega arith)
pointers_next (t ∷ ts) (y ∷ ys) zero s x h g = append-nil (pointers_of t y)
pointers_next (t ∷ ts) (y ∷ ys) (suc at) s x h g =
    ap (λ ns. pointers_of t y ++ ns) (pointers_next ts ys at s x (omega arith) (omega arith))
    ∙ sym (append_assoc (pointers_of t y) (pointers (take at ts) (take at ys)) (pointers_of (get_or ts at s) (get_or ys at x)))

pub pointers_step : (old mid new : List ℕ) (sorts : List Sort) (v : Values) (at : ℕ) (s : Sort) (x : ℚ) → at < length sorts → length sorts ≡ length v → x ≡ get_or v at x
    → mid ≡ old ++ pointers (take at sorts) (take at v) → new ≡ mid ++ pointers_of (get_or sorts at s) x → new ≡ old ++ pointers (take (at + 1) sorts) (take (at + 1) v)
pointers_step old mid new sorts v at s x h same is so_far next =
    let y = get_or sorts at s in
    let before = pointers (take at sorts) (take at v) in
    next
    ∙ (λ i. so_far i ++ pointers_of y (is i))
    ∙ append_assoc old before (pointers_of y (get_or v at x))
    ∙ ap (λ ns. old ++ ns) (sym (pointers_next sorts v at s x h (omega arith)))
    ∙ ap (λ k. old ++ pointers (take k sorts) (take k v)) (sym (add-one at))

ranked_next : (rank : ℕ → ℕ) (sorts : List Sort) (v : Values) (at : ℕ) (s : Sort) (x : ℚ) → at < length sorts → at < length v
    → ranked_values rank (take (suc at) sorts) (take (suc at) v) ≡ ranked_values rank (take at sorts) (take at v) ++ ranked_value rank (get_or sorts at s) (get_or v at x) ∷ []
ranked_next rank [] v at s x h g = absurd (omega arith)
ranked_next rank (t ∷ ts) [] at s x h g = absurd (omega arith)
ranked_next rank (t ∷ ts) (y ∷ ys) zero s x h g = refl
ranked_next rank (t ∷ ts) (y ∷ ys) (suc at) s x h g = ap (λ xs. ranked_value rank t y ∷ xs) (ranked_next rank ts ys at s x (omega arith) (omega arith))

pub ranked_step : (rank : ℕ → ℕ) (mid new : Values) (sorts : List Sort) (v : Values) (at : ℕ) (s : Sort) (x y : ℚ) → at < length sorts → length sorts ≡ length v → x ≡ get_or v at x
    → y ≡ ranked_value rank (get_or sorts at s) x → mid ≡ ranked_values rank (take at sorts) (take at v) → new ≡ mid ++ y ∷ []
    → new ≡ ranked_values rank (take (at + 1) sorts) (take (at + 1) v)
ranked_step rank mid new sorts v at s x y h same is value so_far next =
    next
    ∙ (λ i. so_far i ++ (value ∙ ap (ranked_value rank (get_or sorts at s)) is) i ∷ [])
    ∙ sym (ranked_next rank sorts v at s x h (omega arith))
    ∙ ap (λ k. ranked_values rank (take k sorts) (take k v)) (sym (add-one at))

-- ---- before a place and from there on
pointers-none : (sorts : List Sort) → pointers sorts [] ≡ []
pointers-none [] = refl
pointers-none (s ∷ ss) = refl

pub pointers_parts : (first : ℕ) (sorts : List Sort) (v : Values)
    → pointers sorts v ≡ pointers (take first sorts) (take first v) ++ pointers (drop first sorts) (drop first v)
pointers_parts zero sorts v = refl
pointers_parts (suc first) [] v = refl
pointers_parts (suc first) (s ∷ ss) [] = sym (pointers-none (drop first ss))
pointers_parts (suc first) (s ∷ ss) (x ∷ xs) =
    ap (λ ns. pointers_of s x ++ ns) (pointers_parts first ss xs) ∙ sym (append_assoc (pointers_of s x) (pointers (take first ss) (take first xs)) (pointers (drop first ss) (drop first xs)))

-- ---- how many there are
one_at_most : (s : Sort) (x : ℚ) → length (pointers_of s x) ≤ 1
one_at_most Num x = omega arith
one_at_most Idx x = omega arith
one_at_most Ptr x = omega arith

pointers_few : (sorts : List Sort) (v : Values) → length (pointers sorts v) ≤ length sorts
pointers_few [] v = omega arith
pointers_few (s ∷ ss) [] = omega arith
pointers_few (s ∷ ss) (x ∷ xs) = omega (arith, length-append (pointers_of s x) (pointers ss xs), one_at_most s x, pointers_few ss xs)

pub universe_few : (sorts : List Sort) (v : Values) → length (rising (0 ∷ pointers sorts v)) ≤ suc (length sorts)
universe_few sorts v = omega (arith, rising_few (0 ∷ pointers sorts v), pointers_few sorts v)

-- one value for each sort
pub same_length : (sorts : List Sort) (v : Values) → AreOfSorts sorts v → length sorts ≡ length v
same_length [] [] h = refl
same_length [] (x ∷ xs) h = absurd h
same_length (s ∷ ss) [] h = absurd h
same_length (s ∷ ss) (x ∷ xs) h = ap suc (same_length ss xs h.1)

-- ---- lists that rise
pub rising_increases : (ns : List ℕ) → IsStrictlyIncreasing (rising ns)
rising_increases ns = increases (rising ns) (rises_rising ns)

pub outside_increases : (inside ns : List ℕ) → IsStrictlyIncreasing (outside inside ns)
outside_increases inside ns = IsStrictlyIncreasing-filter (λ n. not (is_among n inside)) (rising ns) (rising_increases ns)
