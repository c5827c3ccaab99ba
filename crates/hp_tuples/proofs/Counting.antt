-- Tuples of places as digits of a counter.
use Rattle.std.proofs.Common.{◌≡◌, ◌∙◌, ℕ, zero, suc, ◌+◌, ◌-◌, ◌<◌, ◌≤◌, List, [], ◌∷◌, ◌++◌, length, get_or, take, drop, replicate, refl, sym, ap, subst, arith}
use Rattle.std.specs.List.{All, flat_map}
use Rattle.std.proofs.lemmas.List.{length-replicate}
use Rattle.std.proofs.lemmas.List.Elements.{All-cons, All-head, All-nil, All-tail}
use Rattle.hp_tuples.specs.Raised.{IsRaised, raise}
use Rattle.hp_tuples.specs.Tuples.{all_tuples, behind, places, places_from, tuples_from}

-- the tuples with a larger first place
abbrev larger : ℕ → ℕ → ℕ → List (List ℕ)
larger size n x = flat_map (behind (all_tuples (places size) n)) (places_from (suc x) (size - suc x))

-- ---- the first tuple
pub zeros_first : (m n : ℕ) → tuples_from (suc m) (replicate n 0) ≡ all_tuples (places (suc m)) n
zeros_first m zero = refl
zeros_first m (suc n) =
    let size = suc m in
    let e : size - 1 ≡ m = omega arith in
    (λ i. behind (zeros_first m n i) 0 ++ flat_map (behind (all_tuples (places size) (length-replicate {A = ℕ} n 0 i))) (places_from 1 (e i)))

pub first_all : (size n : ℕ) → 0 < size → tuples_from size (replicate n 0) ≡ all_tuples (places size) n
first_all zero n h = absurd (omega (arith, h))
first_all (suc m) n h = zeros_first m n

-- ---- the last tuple
pub last_alone : (size : ℕ) (xs : List ℕ) → All (λ x. size ≤ x + 1) xs → tuples_from size xs ≡ xs ∷ []
last_alone size [] h = refl
last_alone size (x ∷ xs) h =
    let top = All-head (λ y. size ≤ y + 1) x xs h in
    let e : size - suc x ≡ 0 = omega (arith, top) in
    (λ i. behind (last_alone size xs (All-tail (λ y. size ≤ y + 1) x xs h) i) x ++ flat_map (behind (all_tuples (places size) (length xs))) (places_from (suc x) (e i)))

-- ---- the next tuple
raised_here : (size x : ℕ) (xs : List ℕ) → x + 1 < size → All (λ y. size ≤ y + 1) xs → tuples_from size (x ∷ xs) ≡ (x ∷ xs) ∷ tuples_from size ((x + 1) ∷ replicate (length xs) 0)
raised_here size x xs h last =
    let n = length xs in
    let d = size - suc (suc x) in
    let e : size - suc x ≡ suc d = omega (arith, h) in
    let some : 0 < size = omega (arith, h) in
    let one : suc x ≡ x + 1 = omega arith in
    let before : tuples_from size (x ∷ xs) ≡ (x ∷ xs) ∷ (behind (all_tuples (places size) n) (suc x) ++ flat_map (behind (all_tuples (places size) n)) (places_from (suc (suc x)) d)) =
    (λ i. behind (last_alone size xs last i) x ++ flat_map (behind (all_tuples (places size) n)) (places_from (suc x) (e i))) in
    let after : behind (all_tuples (places size) n) (suc x) ++ flat_map (behind (all_tuples (places size) n)) (places_from (suc (suc x)) d) ≡ tuples_from size (suc x ∷ replicate n 0) =
    (λ i. behind (sym (first_all size n some) i) (suc x) ++ flat_map (behind (all_tuples (places size) (sym (length-replicate {A = ℕ} n 0) i))) (places_from (suc (suc x)) d)) in
    before ∙ ap (λ ts. (x ∷ xs) ∷ ts) after ∙ ap (λ y. (x ∷ xs) ∷ tuples_from size (y ∷ replicate n 0)) one

raised_behind : (size x : ℕ) (xs ys : List ℕ) → length ys ≡ length xs → tuples_from size xs ≡ xs ∷ tuples_from size ys → tuples_from size (x ∷ xs) ≡ (x ∷ xs) ∷ tuples_from size (x ∷ ys)
raised_behind size x xs ys same h = (λ i. behind (h i) x ++ larger size (sym same i) x)

-- by places counted from 0, with so many behind
raised_length : (xs : List ℕ) (k n : ℕ) → n + suc k ≡ length xs → length (take k xs ++ (get_or xs k 0 + 1) ∷ replicate n 0) ≡ length xs
raised_length [] k n h = absurd (omega (arith, h))
raised_length (x ∷ xs) zero n h = (let e = length-replicate {A = ℕ} n 0 in omega (arith, e, h))
raised_length (x ∷ xs) (suc k) n h = ap suc (raised_length xs k n (omega (arith, h)))

raised_at : (size : ℕ) (xs : List ℕ) (k n : ℕ) → n + suc k ≡ length xs → get_or xs k 0 + 1 < size → All (λ x. size ≤ x + 1) (drop (suc k) xs)
    → tuples_from size xs ≡ xs ∷ tuples_from size (take k xs ++ (get_or xs k 0 + 1) ∷ replicate n 0)
raised_at size [] k n h below last = absurd (omega (arith, h))
raised_at size (x ∷ xs) zero n h below last =
    let e : length xs ≡ n = omega (arith, h) in
    raised_here size x xs below last ∙ ap (λ m. (x ∷ xs) ∷ tuples_from size ((x + 1) ∷ replicate m 0)) e
raised_at size (x ∷ xs) (suc k) n h below last =
    let inside : n + suc k ≡ length xs = omega (arith, h) in
    raised_behind size x xs (take k xs ++ (get_or xs k 0 + 1) ∷ replicate n 0) (raised_length xs k n inside) (raised_at size xs k n inside below last)

pub zeros_below : (size n : ℕ) → 0 < size → All (λ x. x < size) (replicate n 0)
zeros_below size zero h = All-nil (λ x. x < size)
zeros_below size (suc n) h = All-cons (λ x. x < size) 0 (replicate n 0) h (zeros_below size n h)

below_at : (size : ℕ) (xs : List ℕ) (k n : ℕ) → n + suc k ≡ length xs → get_or xs k 0 + 1 < size → All (λ x. x < size) xs
    → All (λ x. x < size) (take k xs ++ (get_or xs k 0 + 1) ∷ replicate n 0)
below_at size [] k n h below all = absurd (omega (arith, h))
below_at size (x ∷ xs) zero n h below all = All-cons (λ y. y < size) (x + 1) (replicate n 0) below (zeros_below size n (omega (arith, below)))
below_at size (x ∷ xs) (suc k) n h below all =
    All-cons (λ y. y < size) x (take k xs ++ (get_or xs k 0 + 1) ∷ replicate n 0) (All-head (λ y. y < size) x xs all)
    (below_at size xs k n (omega (arith, h)) below (All-tail (λ y. y < size) x xs all))

-- ---- by so many places, the last of which is raised
behind_it : (size : ℕ) (xs : List ℕ) (count : ℕ) → 0 < count → IsRaised size xs count → length xs - count + suc (count - 1) ≡ length xs
behind_it size xs count h r = (let w = r.within in omega (arith, h, w))

pub raised_next : (size : ℕ) (xs : List ℕ) (count : ℕ) → 0 < count → IsRaised size xs count → tuples_from size xs ≡ xs ∷ tuples_from size (raise count xs)
raised_next size xs count h r =
    let e : count ≡ suc (count - 1) = omega (arith, h) in
    raised_at size xs (count - 1) (length xs - count) (behind_it size xs count h r) (r.below h) (subst (λ k. All (λ x. size ≤ x + 1) (drop k xs)) e r.last)

pub raised_same_length : (size : ℕ) (xs : List ℕ) (count : ℕ) → 0 < count → IsRaised size xs count → length (raise count xs) ≡ length xs
raised_same_length size xs count h r = raised_length xs (count - 1) (length xs - count) (behind_it size xs count h r)

pub raised_below : (size : ℕ) (xs : List ℕ) (count : ℕ) → 0 < count → IsRaised size xs count → All (λ x. x < size) xs → All (λ x. x < size) (raise count xs)
raised_below size xs count h r all = below_at size xs (count - 1) (length xs - count) (behind_it size xs count h r) (r.below h) all

pub none_next : (size : ℕ) (xs : List ℕ) (count : ℕ) → count ≡ 0 → IsRaised size xs count → tuples_from size xs ≡ xs ∷ []
none_next size xs count h r = last_alone size xs (subst (λ k. All (λ x. size ≤ x + 1) (drop k xs)) h r.last)

-- a tuple is the first of those from it on
pub first_itself : (size : ℕ) (xs : List ℕ) → (rest : List (List ℕ)) × (tuples_from size xs ≡ xs ∷ rest)
first_itself size [] = ([], refl)
first_itself size (x ∷ xs) =
    let h = first_itself size xs in
    (behind h.0 x ++ larger size (length xs) x, ap (λ ts. behind ts x ++ larger size (length xs) x) h.1)
