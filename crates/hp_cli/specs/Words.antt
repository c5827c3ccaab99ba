-- The words of the command line, without the program's name.
use Rattle.std.specs.Prelude.{◌≡◌, ◌⊎◌, ℕ, ◌≤◌, List, [], ◌∷◌, codes}
use Rattle.std.specs.Fmt.{decimal}
use Rattle.hp_cli.specs.declared.words.Task.{Task}
use Rattle.hp_cli.specs.declared.words.Task.TheVariants.{Solve, Print}

-- `solve` alone has a limit of 100,000 nodes; `solve --nodes N` has N, which is 1 to 1,000,000 in decimal digits, without
-- a sign and without a zero in front
abbrev pub IsSolve : List (List ℕ) → ℕ → Type 0
IsSolve words most =
    ((words ≡ codes "solve" ∷ []) × (most ≡ 100000))
    ⊎ ((words ≡ codes "solve" ∷ codes "--nodes" ∷ decimal most ∷ []) × (1 ≤ most) × (most ≤ 1000000))

abbrev pub Asks : List (List ℕ) → Task → Type 0
Asks words (Solve most) = IsSolve words most × (1 ≤ most)
Asks words Print = words ≡ codes "print" ∷ []

-- the words are no command
abbrev pub IsUsage : List (List ℕ) → Type 0
IsUsage words = (task : Task) → Asks words task → ⊥

-- a search has at least one node
abbrev pub IsTask : Task → Type 0
IsTask (Solve most) = 1 ≤ most
IsTask Print = Unit {0}
