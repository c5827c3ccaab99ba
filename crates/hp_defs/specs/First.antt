-- Places of elements in lists.
use Rattle.std.specs.Prelude.{◌≡◌, ℕ, ◌≤◌, List, Option, Some, None, slice_get}

-- the first place at which x stands in xs, or none where it stands nowhere
abbrev pub IsFirst : {X : Type 0} → X → List X → Option ℕ → Type 0
IsFirst x xs None = (k : ℕ) → slice_get xs k ≡ Some x → ⊥
IsFirst x xs (Some k) = (slice_get xs k ≡ Some x) × ((j : ℕ) → slice_get xs j ≡ Some x → k ≤ j)

-- nothing stands twice in the list
abbrev pub IsOnce : {X : Type 0} → List X → Type 0
IsOnce {X} xs = (j k : ℕ) (x : X) → slice_get xs j ≡ Some x → slice_get xs k ≡ Some x → j ≡ k
