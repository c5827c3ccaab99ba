-- The sorts of names, one by one.
use Rattle.std.proofs.Common.{◌≡◌, ℕ, zero, suc, ◌+◌, List, [], ◌∷◌, ◌++◌, take, ap, ◌∙◌, arith}
use Rattle.std.specs.Prelude.{Option, Some, slice_get}

some_same : {X : Type 0} (x y : X) → ◌≡◌ {A = Option X} (Some x) (Some y) → x ≡ y
some_same x y e = cc

pub take_next : {X : Type 0} (xs : List X) (i : ℕ) (x : X) → slice_get xs i ≡ Some x → take (i + 1) xs ≡ take i xs ++ x ∷ []
take_next [] i x h = absurd (cc)
take_next (y ∷ ys) zero x h = ap (λ z. z ∷ []) (some_same y x h)
take_next {X} (y ∷ ys) (suc i) x h =
    let s : suc i + 1 ≡ suc (i + 1) = omega arith in
    ap (λ j. take j (y ∷ ys)) s ∙ ap (λ (zs : List X). y ∷ zs) (take_next ys i x h)
