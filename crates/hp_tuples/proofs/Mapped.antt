-- Tuples over a list by tuples of places in it.
use Rattle.std.proofs.Common.{◌≡◌, ◌∙◌, ℕ, zero, suc, List, [], ◌∷◌, ◌++◌, map, length, get_or, refl, sym, ap}
use Rattle.std.specs.List.{flat_map}
use Rattle.std.proofs.lemmas.List.{map-append}
use Rattle.hp_tuples.specs.Tuples.{all_tuples, behind, places, places_from}

module _ {X Y : Type 0} (f : X → Y) where
  behind_map : (x : X) (ts : List (List X)) → behind (map (map f) ts) (f x) ≡ map (map f) (behind ts x)
  behind_map x [] = refl
  behind_map x (t ∷ ts) = ap (λ us. (f x ∷ map f t) ∷ us) (behind_map x ts)

  each_map : (xs : List X) (ts : List (List X)) → flat_map (behind (map (map f) ts)) (map f xs) ≡ map (map f) (flat_map (behind ts) xs)
  each_map [] ts = refl
  each_map (x ∷ xs) ts = (λ i. behind_map x ts i ++ each_map xs ts i) ∙ sym (map-append (map f) (behind ts x) (flat_map (behind ts) xs))

  pub tuples_map : (xs : List X) (n : ℕ) → all_tuples (map f xs) n ≡ map (map f) (all_tuples xs n)
  tuples_map xs zero = refl
  tuples_map xs (suc n) = ap (λ ts. flat_map (behind ts) (map f xs)) (tuples_map xs n) ∙ each_map xs (all_tuples xs n)

-- ---- places
later_places : {Y : Type 0} (f : ℕ → Y) (first n : ℕ) → map f (places_from (suc first) n) ≡ map (λ k. f (suc k)) (places_from first n)
later_places f first zero = refl
later_places f first (suc n) = ap (λ ys. f (suc first) ∷ ys) (later_places f (suc first) n)

pub all_places : {X : Type 0} (xs : List X) (d : X) → map (λ k. get_or xs k d) (places (length xs)) ≡ xs
all_places [] d = refl
all_places (x ∷ xs) d = ap (λ ys. x ∷ ys) (later_places (λ k. get_or (x ∷ xs) k d) 0 (length xs) ∙ all_places xs d)

-- the tuples over a list are those of places, with its elements at them
pub tuples_at : {X : Type 0} (xs : List X) (d : X) (n : ℕ) → all_tuples xs n ≡ map (map (λ k. get_or xs k d)) (all_tuples (places (length xs)) n)
tuples_at xs d n = ap (λ ys. all_tuples ys n) (sym (all_places xs d)) ∙ tuples_map (λ k. get_or xs k d) (places (length xs)) n
