-- The place of a tuple that is raised, and what comes then.
use Rattle.std.specs.Prelude.{ℕ, ◌+◌, ◌-◌, ◌<◌, ◌≤◌, List, ◌∷◌, ◌++◌, get_or, length, take, drop, replicate}
use Rattle.std.specs.List.{All}

-- of so many places the last one can be raised, and none behind it
pub record IsRaised (size : ℕ) (xs : List ℕ) (count : ℕ) : Type 0 where
  pub within : count ≤ length xs
  pub last : All (λ x. size ≤ x + 1) (drop count xs)
  pub below : 0 < count → get_or xs (count - 1) 0 + 1 < size

-- the last of so many places is raised, and those behind it are 0
abbrev pub raise : ℕ → List ℕ → List ℕ
raise count xs = take (count - 1) xs ++ (get_or xs (count - 1) 0 + 1) ∷ replicate (length xs - count) 0
