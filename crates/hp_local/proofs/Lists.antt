-- What lists contain, by their first element and the rest.
use Rattle.std.proofs.Common.{◌≡◌, ◌⊎◌, ◌<◌, inl, inr, ℕ, zero, suc, List, [], ◌∷◌, map, length, Bool, true, false, IsTrue, refl, cond, arith, ap, ◌∙◌, sym, subst}
use Rattle.std.specs.Prelude.{slice_index_or}
use Rattle.std.specs.List.{All, Contains, filter}
use Rattle.std.proofs.lemmas.List.Elements.{Contains-get_or}

pub contains_first : {X : Type 0} (x : X) (xs : List X) → Contains (x ∷ xs) x
contains_first x xs = (0, omega arith, refl)

pub contains_same : {X : Type 0} (x : X) (xs : List X) (y : X) → x ≡ y → Contains (x ∷ xs) y
contains_same x xs y e = (0, omega arith, e)

pub contains_later : {X : Type 0} (x : X) (xs : List X) (y : X) → Contains xs y → Contains (x ∷ xs) y
contains_later x xs y m = (suc m.0, omega (arith, m.1), m.2)

pub contains_cases : {X : Type 0} (x : X) (xs : List X) (y : X) → Contains (x ∷ xs) y → (x ≡ y) ⊎ Contains xs y
contains_cases {X} x xs y m = by m.0 m.1 m.2
  where
    by : (k : ℕ) → k < length (x ∷ xs) → slice_index_or (x ∷ xs) k y ≡ y → (x ≡ y) ⊎ Contains xs y
    by zero l e = inl e
    by (suc k) l e = inr (k, omega arith, e)

pub contains_none : {X : Type 0} (y : X) → Contains [] y → ⊥
contains_none y m = omega (arith, m.1)

-- each element that is there
pub All-by : {X : Type 0} (P : X → Type 0) (xs : List X) → ((x : X) → Contains xs x → P x) → All P xs
All-by P xs h k d l = h (slice_index_or xs k d) (Contains-get_or xs k d l)

-- what a filter keeps
pub contains_filter : {X : Type 0} (test : X → Bool) (xs : List X) (x : X) → Contains xs x → IsTrue (test x) → Contains (filter test xs) x
contains_filter test [] x m t = absurd (contains_none x m)
contains_filter {X} test (y ∷ ys) x m t = by (λ n. contains_filter test ys x n t) (contains_cases y ys x m)
  where
    by : (Contains ys x → Contains (filter test ys) x) → (y ≡ x) ⊎ Contains ys x → Contains (filter test (y ∷ ys)) x
    by rest (inl e) = (let u : test y ≡ true = ap test e ∙ t in rw u (subst (λ z. Contains (y ∷ filter test ys) z) e (contains_first y (filter test ys))))
    by rest (inr n) = elim (test y) as (λ b. Contains (cond b (y ∷ filter test ys) (filter test ys)) x) [
      | true ↦ contains_later y (filter test ys) x (rest n)
      | false ↦ rest n
    ]

pub filter_contains : {X : Type 0} (test : X → Bool) (xs : List X) (x : X) → Contains (filter test xs) x → Contains xs x × IsTrue (test x)
filter_contains test [] x m = absurd (contains_none x m)
filter_contains {X} test (y ∷ ys) x m =
    (elim (test y) as (λ b. test y ≡ b → Contains (cond b (y ∷ filter test ys) (filter test ys)) x → Contains (y ∷ ys) x × IsTrue (test x)) [
      | true ↦ λ t m. here t (λ n. filter_contains test ys x n) (contains_cases y (filter test ys) x m)
      | false ↦ λ t m. there (filter_contains test ys x m)
    ]) refl m
  where
    there : Contains ys x × IsTrue (test x) → Contains (y ∷ ys) x × IsTrue (test x)
    there h = (contains_later y ys x h.0, h.1)

    here : test y ≡ true → (Contains (filter test ys) x → Contains ys x × IsTrue (test x)) → (y ≡ x) ⊎ Contains (filter test ys) x → Contains (y ∷ ys) x × IsTrue (test x)
    here t rest (inl e) = (subst (λ z. Contains (y ∷ ys) z) e (contains_first y ys), ap test (sym e) ∙ t)
    here t rest (inr n) = there (rest n)

-- what a map makes
pub contains_map : {X Y : Type 0} (f : X → Y) (xs : List X) (x : X) → Contains xs x → Contains (map f xs) (f x)
contains_map f [] x m = absurd (contains_none x m)
contains_map {X} {Y} f (y ∷ ys) x m = by (λ n. contains_map f ys x n) (contains_cases y ys x m)
  where
    by : (Contains ys x → Contains (map f ys) (f x)) → (y ≡ x) ⊎ Contains ys x → Contains (f y ∷ map f ys) (f x)
    by rest (inl e) = contains_same (f y) (map f ys) (f x) (ap f e)
    by rest (inr n) = contains_later (f y) (map f ys) (f x) (rest n)

pub map_contains : {X Y : Type 0} (f : X → Y) (xs : List X) (y : Y) → Contains (map f xs) y → (x : X) × Contains xs x × (f x ≡ y)
map_contains f [] y m = absurd (contains_none y m)
map_contains {X} {Y} f (x ∷ xs) y m = by (λ n. map_contains f xs y n) (contains_cases (f x) (map f xs) y m)
  where
    by : (Contains (map f xs) y → (z : X) × Contains xs z × (f z ≡ y)) → (f x ≡ y) ⊎ Contains (map f xs) y → (z : X) × Contains (x ∷ xs) z × (f z ≡ y)
    by rest (inl e) = (x, contains_first x xs, e)
    by rest (inr n) = (let h = rest n in (h.0, contains_later x xs h.0 h.1, h.2))
