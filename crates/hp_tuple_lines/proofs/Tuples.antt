-- Tuples over a list: their entries, those of given values, and those of one entry.
use Rattle.std.proofs.Common.{◌≡◌, ◌∙◌, ◌⊎◌, inl, inr, ℕ, zero, suc, List, [], ◌∷◌, ◌++◌, map, length, Some, slice_get, refl, sym, ap, subst}
use Rattle.std.specs.List.{Contains, flat_map}
use Rattle.std.proofs.lemmas.List.Elements.{Contains-append_cases, Contains-append_left, Contains-append_right}
use Rattle.hp_math.specs.Rational.{ℚ}
use Rattle.hp_tree.specs.declared.problem.Var.{Var}
use Rattle.hp_local.specs.Arrays.{AreAmong}
use Rattle.hp_local.proofs.Lists.{contains_cases, contains_first, contains_later, contains_map, contains_none, contains_same, map_contains}
use Rattle.hp_tuples.specs.Tuples.{all_tuples, behind}

-- ---- lists
pub contains_flat_map : {X Y : Type 0} (f : X → List Y) (xs : List X) (x : X) (y : Y) → Contains xs x → Contains (f x) y → Contains (flat_map f xs) y
contains_flat_map f [] x y m n = absurd (contains_none x m)
contains_flat_map {X} {Y} f (z ∷ xs) x y m n = by (λ h. contains_flat_map f xs x y h n) (contains_cases z xs x m)
  where
    by : (Contains xs x → Contains (flat_map f xs) y) → (z ≡ x) ⊎ Contains xs x → Contains (f z ++ flat_map f xs) y
    by rest (inl e) = Contains-append_left (f z) (flat_map f xs) y (subst (λ (w : X). Contains (f w) y) (sym e) n)
    by rest (inr h) = Contains-append_right (f z) (flat_map f xs) y (rest h)

-- of which entry it comes
pub flat_map_contains : {X Y : Type 0} (f : X → List Y) (xs : List X) (y : Y) → Contains (flat_map f xs) y → (x : X) × Contains xs x × Contains (f x) y
flat_map_contains f [] y m = absurd (contains_none y m)
flat_map_contains {X} {Y} f (x ∷ xs) y m = by (λ h. flat_map_contains f xs y h) (Contains-append_cases (f x) (flat_map f xs) y m)
  where
    by : (Contains (flat_map f xs) y → (z : X) × Contains xs z × Contains (f z) y) → Contains (f x) y ⊎ Contains (flat_map f xs) y → (z : X) × Contains (x ∷ xs) z × Contains (f z) y
    by rest (inl h) = (x, contains_first x xs, h)
    by rest (inr h) = (let w = rest h in (w.0, contains_later x xs w.0 w.1, w.2))

-- what stands at a place is there
pub get_contains : {X : Type 0} (xs : List X) (k : ℕ) (x : X) → slice_get xs k ≡ Some x → Contains xs x
get_contains [] k x e = absurd (cc)
get_contains (y ∷ xs) zero x e = contains_same y xs x (let same : y ≡ x = cc in same)
get_contains (y ∷ xs) (suc k) x e = contains_later y xs x (get_contains xs k x e)

-- and stands at a place
pub contains_get : {X : Type 0} (xs : List X) (x : X) → Contains xs x → (k : ℕ) × (slice_get xs k ≡ Some x)
contains_get [] x m = absurd (contains_none x m)
contains_get {X} (y ∷ xs) x m = by (λ h. contains_get xs x h) (contains_cases y xs x m)
  where
    by : (Contains xs x → (k : ℕ) × (slice_get xs k ≡ Some x)) → (y ≡ x) ⊎ Contains xs x → (k : ℕ) × (slice_get (y ∷ xs) k ≡ Some x)
    by rest (inl e) = (0, ap Some e)
    by rest (inr h) = (let w = rest h in (suc w.0, w.1))

-- ---- tuples
-- the first entry and the rest of a tuple
first_and_rest : {X : Type 0} (xs : List X) (n : ℕ) (t : List X) → Contains (all_tuples xs (suc n)) t → (x : X) × (u : List X) × Contains xs x × Contains (all_tuples xs n) u × (x ∷ u ≡ t)
first_and_rest {X} xs n t m =
    let w = flat_map_contains (behind (all_tuples xs n)) xs t m in
    let u = map_contains (λ (z : List X). w.0 ∷ z) (all_tuples xs n) t w.2 in
    (w.0, u.0, w.1, u.1, u.2)

pub tuple_inside : {X : Type 0} (xs : List X) (n : ℕ) (t : List X) → Contains (all_tuples xs n) t → (x : X) → Contains t x → Contains xs x
tuple_inside {X} xs zero t m x k = elim (contains_cases [] [] t m) [
  | inl e ↦ absurd (contains_none x (subst (λ (z : List X). Contains z x) (sym e) k))
  | inr h ↦ absurd (contains_none t h)
]
tuple_inside {X} xs (suc n) t m x k =
    let w = first_and_rest xs n t m in
    elim (contains_cases w.0 w.1 x (subst (λ (z : List X). Contains z x) (sym w.4) k)) [
      | inl e ↦ subst (λ (z : X). Contains xs z) e w.2
      | inr h ↦ tuple_inside xs n w.1 w.3 x h
    ]

pub tuple_length : {X : Type 0} (xs : List X) (n : ℕ) (t : List X) → Contains (all_tuples xs n) t → length t ≡ n
tuple_length {X} xs zero t m = elim (contains_cases [] [] t m) [
  | inl e ↦ ap (λ (z : List X). length z) (sym e)
  | inr h ↦ absurd (contains_none t h)
]
tuple_length {X} xs (suc n) t m =
    let w = first_and_rest xs n t m in
    ap (λ (z : List X). length z) (sym w.4) ∙ ap suc (tuple_length xs n w.1 w.3)

pub longer : {X : Type 0} (xs : List X) (n : ℕ) (x : X) (t : List X) → Contains xs x → Contains (all_tuples xs n) t → Contains (all_tuples xs (suc n)) (x ∷ t)
longer {X} xs n x t m k = contains_flat_map (behind (all_tuples xs n)) xs x (x ∷ t) m (contains_map (λ (z : List X). x ∷ z) (all_tuples xs n) t k)

-- a tuple of these values
pub of_values : {X : Type 0} (f : X → ℚ) (xs : List X) (vars : List Var) (values : List ℚ) → AreAmong (map f xs) vars values
    → (t : List X) × Contains (all_tuples xs (length vars)) t × (map f t ≡ values)
of_values {X} f xs [] [] h = ([], contains_first {X = List X} [] [], refl)
of_values f xs [] (y ∷ values) h = absurd h
of_values f xs (v ∷ vars) [] h = absurd h
of_values f xs (v ∷ vars) (y ∷ values) h =
    let w = map_contains f xs y h.0 in
    let rest = of_values f xs vars values h.1 in
    (w.0 ∷ rest.0, longer xs (length vars) w.0 rest.0 w.1 rest.1, (λ i. w.2 i ∷ rest.2 i))

-- a tuple of one entry alone
pub of_one : {X : Type 0} (xs : List X) (n : ℕ) (x : X) → Contains xs x → (t : List X) × Contains (all_tuples xs n) t × ((y : X) → Contains t y → y ≡ x)
of_one {X} xs zero x m = ([], contains_first {X = List X} [] [], λ y k. absurd (contains_none y k))
of_one {X} xs (suc n) x m =
    let rest = of_one xs n x m in
    (x ∷ rest.0, longer xs n x rest.0 m rest.1, λ y k. elim (contains_cases x rest.0 y k) [ inl e ↦ sym e | inr h ↦ rest.2 y h ])
