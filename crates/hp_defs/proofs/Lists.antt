-- Lists that grow at their end, by their places.
use Rattle.std.proofs.Common.{◌≡◌, ℕ, zero, suc, ◌+◌, ◌++◌, ◌⊎◌, List, [], ◌∷◌, length, take, Option, Some, None, slice_get, refl, sym, ap, ◌∙◌, arith, inl, inr}
use Rattle.std.specs.Option.{MatchOption}
use Rattle.hp_defs.specs.First.{IsFirst, IsOnce}

-- what stands in a list with one more element at the end
pub pushed : {X : Type 0} (xs : List X) (y : X) (k : ℕ) (x : X) → slice_get (xs ++ y ∷ []) k ≡ Some x → (slice_get xs k ≡ Some x) ⊎ ((k ≡ length xs) × (x ≡ y))
pushed [] y zero x h = inr (refl, cc)
pushed [] y (suc k) x h = absurd (cc)
pushed (z ∷ zs) y zero x h = inl h
pushed (z ∷ zs) y (suc k) x h = elim (pushed zs y k x h) [ inl s ↦ inl s | inr w ↦ inr (ap suc w.0, w.1) ]

-- what stands in front stands in the whole list
pub get_front : {X : Type 0} (xs ys : List X) (k : ℕ) (x : X) → slice_get xs k ≡ Some x → slice_get (xs ++ ys) k ≡ Some x
get_front [] ys k x e = absurd (cc)
get_front (z ∷ zs) ys zero x e = e
get_front (z ∷ zs) ys (suc k) x e = get_front zs ys k x e

-- an element of two lists one after another stands in the first or in the second
pub split : {X : Type 0} (xs ys : List X) (k : ℕ) (x : X) → slice_get (xs ++ ys) k ≡ Some x → (slice_get xs k ≡ Some x) ⊎ ((i : ℕ) × (k ≡ length xs + i) × (slice_get ys i ≡ Some x))
split [] ys k x h = inr (k, omega arith, h)
split (z ∷ zs) ys zero x h = inl h
split (z ∷ zs) ys (suc k) x h = elim (split zs ys k x h) [ inl a ↦ inl a | inr w ↦ inr (w.0, (let e = w.1 in omega (arith, e)), w.2) ]

last_get : {X : Type 0} (xs : List X) (x : X) → slice_get (xs ++ x ∷ []) (length xs) ≡ Some x
last_get [] x = refl
last_get (y ∷ ys) x = last_get ys x

-- an element that was nowhere stands first where it was put last
pub added_first : {X : Type 0} (x : X) (xs : List X) → IsFirst x xs None → IsFirst x (xs ++ x ∷ []) (Some (length xs))
added_first x xs none = (last_get xs x, λ j g. elim (pushed xs x j x g) [ inl a ↦ absurd (none j a) | inr w ↦ omega (arith, w.0) ])

pub take_front : {X : Type 0} (xs ys : List X) → take (length xs) (xs ++ ys) ≡ xs
take_front [] ys = take_none ys
  where
    take_none : {X : Type 0} (ys : List X) → take 0 ys ≡ []
    take_none [] = refl
    take_none (y ∷ ys) = refl
take_front (x ∷ xs) ys = ap (λ zs. x ∷ zs) (take_front xs ys)

pub once_push : {X : Type 0} (xs : List X) (y : X) → IsOnce xs → IsFirst y xs None → IsOnce (xs ++ y ∷ [])
once_push xs y once new j k x h g = elim (pushed xs y j x h) [
  | inl a ↦ elim (pushed xs y k x g) [ inl b ↦ once j k x a b | inr b ↦ absurd (new j (a ∙ ap Some b.1)) ]
  | inr a ↦ elim (pushed xs y k x g) [ inl b ↦ absurd (new k (b ∙ ap Some a.1)) | inr b ↦ a.0 ∙ sym b.0 ]
]

nothing_last : {X : Type 0} (xs : List X) (x : X) → xs ++ x ∷ [] ≡ [] → ⊥
nothing_last [] x e = absurd (cc)
nothing_last (y ∷ ys) x e = absurd (cc)

last_off : {X : Type 0} (xs ys : List X) (x y : X) → xs ++ x ∷ [] ≡ ys ++ y ∷ [] → xs ≡ ys
last_off [] [] x y e = refl
last_off [] (b ∷ ys) x y e = absurd (nothing_last ys y (sym (cc)))
last_off (a ∷ xs) [] x y e = absurd (nothing_last xs x (cc))
last_off (a ∷ xs) (b ∷ ys) x y e = let heads : a ≡ b = cc in let tails : xs ++ x ∷ [] ≡ ys ++ y ∷ [] = cc in λ i. heads i ∷ last_off xs ys x y tails i

-- what is left when the element that was put last is taken off
pub taken_off : {X : Type 0} (kept : List X) (d : X) (r : Option X) (old new : List X) → old ≡ kept ++ d ∷ [] → MatchOption r ((old ≡ []) × (new ≡ [])) (λ last. old ≡ new ++ last ∷ []) → new ≡ kept
taken_off kept d None old new e m = absurd (nothing_last kept d (sym e ∙ m.0))
taken_off kept d (Some last) old new e m = last_off new kept last d (sym m ∙ e)
