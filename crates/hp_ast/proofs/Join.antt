-- One more piece at the end of a joined text.
use Rattle.std.proofs.Common.{◌≡◌, ℕ, zero, suc, ◌+◌, ◌<◌, List, [], ◌∷◌, ◌++◌, take, length, get_or, arith, ap, ◌∙◌, append_assoc, append-nil, add-one}
use Rattle.std.specs.List.{flat_map, join_by}

flat_map_more : {X : Type 0} (f : X → List ℕ) (xs : List X) (i : ℕ) (d : X) → i < length xs
    → flat_map f (take (suc i) xs) ≡ flat_map f (take i xs) ++ f (get_or xs i d)
flat_map_more f [] i d h = absurd (omega arith)
flat_map_more f (x ∷ xs) zero d h = append-nil (f x)
flat_map_more f (x ∷ xs) (suc i) d h = ap (λ z. f x ++ z) (flat_map_more f xs i d (omega arith)) ∙ simp append_assoc

pub join_first : {X : Type 0} (f : X → List ℕ) (sep : List ℕ) (xs : List X) (i : ℕ) (d : X) → i < length xs → i ≡ 0
    → join_by f sep (take (i + 1) xs) ≡ f (get_or xs i d)
join_first f sep [] i d h e = absurd (omega arith)
join_first f sep (x ∷ xs) i d h e = rw e (append-nil (f x))

pub join_more : {X : Type 0} (f : X → List ℕ) (sep : List ℕ) (xs : List X) (i : ℕ) (d : X) → i < length xs → 0 < i
    → join_by f sep (take (i + 1) xs) ≡ (join_by f sep (take i xs) ++ sep) ++ f (get_or xs i d)
join_more f sep [] i d h p = absurd (omega arith)
join_more f sep (x ∷ xs) zero d h p = absurd (omega arith)
join_more f sep (x ∷ xs) (suc i) d h p = rw add-one (ap (λ z. f x ++ z) (flat_map_more (λ y. sep ++ f y) xs i d (omega arith)) ∙ simp append_assoc)
