-- What ranks say of a universe, and the values of names by rank.
use Rattle.std.proofs.Common.{◌≡◌, ℕ, zero, suc, ◌<◌, ◌≤◌, ◌||◌, ◌++◌, List, [], ◌∷◌, Bool, true, false, cond, length, get_or, take, drop, nat_eq, nat_lt, Some, pos, ℤ, negsuc, ◌≤ℤ◌, refl, sym, ap, subst, ◌∙◌, arith, unsigned_abs}
use Rattle.std.specs.Prelude.{slice_get}
use Rattle.std.proofs.lemmas.Bool.{eq-eqb, eqb-true, or_left, or_right}
use Rattle.std.proofs.lemmas.Int.{ints}
use Rattle.std.proofs.lemmas.List.{get_or-take}
use Rattle.std.proofs.lemmas.List.Folds.{list_any-append}
use Rattle.hp_math.specs.Rational.{ℚ, whole, ◌≤ℚ◌}
use Rattle.hp_math.proofs.Rational.{ℚ-ext}
use Rattle.hp_math.proofs.Parts.{whole-parts}
use Rattle.hp_math.proofs.Laws.{whole-≤}
use Rattle.hp_tree.specs.declared.problem.Sort.{Sort}
use Rattle.hp_tree.specs.declared.problem.Sort.TheVariants.{Num, Idx, Ptr}
use Rattle.hp_lit.specs.Truth.{Values, name_value}
use Rattle.hp_lit.specs.Sorts.{AreOfSorts, HaveSorts, IsOfSort}
use Rattle.hp_rank.specs.Ranks.{is_among, others, placed, pointer, pointer_values, pointers, pointers_of, rank, ranked, ranked_value, ranked_values, rising, universe}
use Rattle.hp_rank.specs.Laws.{AreRanks, HasRank, IsRanked}
use Rattle.hp_rank.proofs.Rising.{head_among, is_among-rising, rises_rising}
use Rattle.hp_rank.proofs.Places.{among_at, is_among-both, place-inj, place_in-get_or, place_in_beyond, place_in_order, place_in_within, zero_first}
use Rattle.hp_rank.proofs.Steps.{pointers_parts}

-- ---- ranks
placed_some : (n : ℕ) (ns : List ℕ) → 1 ≤ length (placed n ns)
placed_some n [] = omega arith
placed_some n (m ∷ ms) = elim (nat_lt n m) as (λ b. 1 ≤ length (cond b (n ∷ m ∷ ms) (cond (nat_eq n m) (m ∷ ms) (m ∷ placed n ms)))) [
  | true ↦ omega arith
  | false ↦ elim (nat_eq n m) as (λ b. 1 ≤ length (cond b (m ∷ ms) (m ∷ placed n ms))) [ true ↦ omega arith | false ↦ omega arith ]
]

pub are_ranks : (first : ℕ) (sorts : List Sort) (v : Values) → AreRanks first sorts v
are_ranks first sorts v =
    let inside = universe first sorts v in
    let beside = others first sorts v in
    let front = rising (pointers (take first sorts) (take first v)) in
    let rises = rises_rising (pointer_values first sorts v) in
    record {
      members = λ n. is_among-rising n (pointer_values first sorts v);
      some = placed_some 0 front;
      null = zero_first front beside;
      inside = place_in_within inside beside;
      beside = place_in_beyond inside beside;
      every = λ k h. (get_or inside k 0, among_at inside k h, place_in-get_or inside beside rises k h);
      order = place_in_order inside beside rises;
      distinct = λ m n h g e. place-inj m n (inside ++ beside) h g e;
    }

-- ---- pointers
pub null_pointer : pointer (whole (pos 0)) ≡ 0
null_pointer = ap unsigned_abs (whole-parts (pos 0)).0

natural : (n : ℤ) → pos 0 ≤ℤ n → n ≡ pos (unsigned_abs n)
natural (pos n) h = refl
natural (negsuc n) h = absurd (omega (arith, ints))

-- a value of sort ptr is its pointer
pub is_pointer : (x : ℚ) → IsOfSort Ptr x → x ≡ whole (pos (pointer x))
is_pointer x h =
    let parts = whole-parts x.num in
    let one : x.den ≡ 1 = eqb-true x.den 1 h.0 in
    let is : x ≡ whole x.num = ℚ-ext x (whole x.num) (sym parts.0) (one ∙ sym parts.1) in
    let low = (whole-≤ (pos 0) x.num).0 (subst (λ y. whole (pos 0) ≤ℚ y) is h.1) in
    is ∙ ap whole (natural x.num low)

pub of_sort_ptr : (n : ℕ) → IsOfSort Ptr (whole (pos n))
of_sort_ptr n = (eq-eqb (whole (pos n)).den 1 (whole-parts (pos n)).1, (whole-≤ (pos 0) (pos n)).1 (omega (arith, ints)))

-- ---- values of names by rank
pub ranked_ptr : (f : ℕ → ℕ) (s : Sort) (x : ℚ) → s ≡ Ptr → ranked_value f s x ≡ whole (pos (f (pointer x)))
ranked_ptr f Num x e = absurd (cc)
ranked_ptr f Idx x e = absurd (cc)
ranked_ptr f Ptr x e = refl

ranked_other : (f : ℕ → ℕ) (s : Sort) (x : ℚ) → (Some s ≡ Some Ptr → ⊥) → ranked_value f s x ≡ x
ranked_other f Num x h = refl
ranked_other f Idx x h = refl
ranked_other f Ptr x h = absurd (h refl)

pub ranked_name : (f : ℕ → ℕ) → f 0 ≡ 0 → (sorts : List Sort) (v : Values) (n : ℕ) → slice_get sorts n ≡ Some Ptr
    → name_value (ranked_values f sorts v) n ≡ whole (pos (f (pointer (name_value v n))))
ranked_name f z [] v n h = absurd (cc)
ranked_name f z (s ∷ ss) [] n h = ap (λ k. whole (pos k)) (sym (ap f null_pointer ∙ z))
ranked_name f z (s ∷ ss) (x ∷ xs) zero h = ranked_ptr f s x (cc)
ranked_name f z (s ∷ ss) (x ∷ xs) (suc n) h = ranked_name f z ss xs n h

pub other_name : (f : ℕ → ℕ) (sorts : List Sort) (v : Values) (n : ℕ) → (slice_get sorts n ≡ Some Ptr → ⊥) → name_value (ranked_values f sorts v) n ≡ name_value v n
other_name f [] v n h = refl
other_name f (s ∷ ss) [] n h = refl
other_name f (s ∷ ss) (x ∷ xs) zero h = ranked_other f s x h
other_name f (s ∷ ss) (x ∷ xs) (suc n) h = other_name f ss xs n h

-- ---- the pointers of names are among those that are ranked
or_assoc : (a b c : Bool) → (a || (b || c)) ≡ ((a || b) || c)
or_assoc true b c = refl
or_assoc false b c = refl

weaker : (a b c : Bool) → (a || c) ≡ true → (a || (b || c)) ≡ true
weaker true b c h = refl
weaker false true c h = refl
weaker false false c h = h

listed_ptr : (s : Sort) (x : ℚ) (ns : List ℕ) → s ≡ Ptr → is_among (pointer x) (pointers_of s x ++ ns) ≡ true
listed_ptr Num x ns e = absurd (cc)
listed_ptr Idx x ns e = absurd (cc)
listed_ptr Ptr x ns e = head_among (pointer x) ns

named : (sorts : List Sort) (v : Values) (n : ℕ) → slice_get sorts n ≡ Some Ptr → is_among (pointer (name_value v n)) (0 ∷ pointers sorts v) ≡ true
named [] v n h = absurd (cc)
named (s ∷ ss) [] n h = or_left (nat_eq (pointer (whole (pos 0))) 0) false (eq-eqb (pointer (whole (pos 0))) 0 null_pointer)
named (s ∷ ss) (x ∷ xs) zero h = or_right (nat_eq (pointer x) 0) (is_among (pointer x) (pointers_of s x ++ pointers ss xs)) (listed_ptr s x (pointers ss xs) (cc))
named (s ∷ ss) (x ∷ xs) (suc n) h =
    let k = pointer (name_value xs n) in
    ap (λ b. nat_eq k 0 || b) (list_any-append (nat_eq k) (pointers_of s x) (pointers ss xs)) ∙ weaker (nat_eq k 0) (is_among k (pointers_of s x)) (is_among k (pointers ss xs)) (named ss xs n h)

-- null and the pointers of all names are ranked
ranked_all : (first : ℕ) (sorts : List Sort) (v : Values) (k : ℕ) → is_among k (0 ∷ pointers sorts v) ≡ true → IsRanked first sorts v k
ranked_all first sorts v k h =
    let front = pointers (take first sorts) (take first v) in
    let back = pointers (drop first sorts) (drop first v) in
    is_among-both k (universe first sorts v) back
    ∙ ap (λ b. b || is_among k back) (is_among-rising k (0 ∷ front))
    ∙ sym (or_assoc (nat_eq k 0) (is_among k front) (is_among k back))
    ∙ ap (λ b. nat_eq k 0 || b) (sym (list_any-append (nat_eq k) front back))
    ∙ ap (λ ns. nat_eq k 0 || is_among k ns) (sym (pointers_parts first sorts v))
    ∙ h

pub null_ranked : (first : ℕ) (sorts : List Sort) (v : Values) → IsRanked first sorts v 0
null_ranked first sorts v = ranked_all first sorts v 0 (head_among 0 (pointers sorts v))

get_taken : {A : Type 0} (first n : ℕ) (xs : List A) → n < first → slice_get (take first xs) n ≡ slice_get xs n
get_taken zero n xs h = absurd (omega arith)
get_taken (suc first) n [] h = refl
get_taken (suc first) zero (x ∷ xs) h = refl
get_taken (suc first) (suc n) (x ∷ xs) h = get_taken first n xs (omega arith)

in_universe : (first : ℕ) (sorts : List Sort) (v : Values) (n : ℕ) → slice_get sorts n ≡ Some Ptr → n < first → is_among (pointer (name_value v n)) (universe first sorts v) ≡ true
in_universe first sorts v n h less =
    let k = pointer (name_value v n) in
    let taken = named (take first sorts) (take first v) n (get_taken first n sorts less ∙ h) in
    is_among-rising k (pointer_values first sorts v)
    ∙ subst (λ x. is_among (pointer x) (pointer_values first sorts v) ≡ true) (get_or-take first v n (whole (pos 0)) less) taken

pub has_rank : (first : ℕ) (sorts : List Sort) (v : Values) (name : ℕ) → slice_get sorts name ≡ Some Ptr → HasRank first sorts v name
has_rank first sorts v name h =
    let ranks = are_ranks first sorts v in
    record {
      listed = ranked_all first sorts v (pointer (name_value v name)) (named sorts v name h);
      value = ranked_name (rank first sorts v) ranks.null sorts v name h;
      inside = λ less. ranks.inside (pointer (name_value v name)) (in_universe first sorts v name h less);
    }

-- ---- sorts
ranked_sort : (f : ℕ → ℕ) (s : Sort) (x : ℚ) → IsOfSort s x → IsOfSort s (ranked_value f s x)
ranked_sort f Num x h = tt
ranked_sort f Idx x h = h
ranked_sort f Ptr x h = of_sort_ptr (f (pointer x))

pub all_of_sorts : (f : ℕ → ℕ) (sorts : List Sort) (v : Values) → AreOfSorts sorts v → AreOfSorts sorts (ranked_values f sorts v)
all_of_sorts f [] v h = h
all_of_sorts f (s ∷ ss) [] h = absurd h
all_of_sorts f (s ∷ ss) (x ∷ xs) h = (ranked_sort f s x h.0, all_of_sorts f ss xs h.1)

pub have_sorts : (first : ℕ) (sorts : List Sort) (v : Values) → HaveSorts sorts v → HaveSorts sorts (ranked first sorts v)
have_sorts first sorts v h n Num e = tt
have_sorts first sorts v h n Idx e = subst (IsOfSort Idx) (sym (other_name (rank first sorts v) sorts v n (λ g. cc))) (h n Idx e)
have_sorts first sorts v h n Ptr e = subst (IsOfSort Ptr) (sym (has_rank first sorts v n e).value) (of_sort_ptr (rank first sorts v (pointer (name_value v n))))
