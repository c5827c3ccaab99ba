-- The exit statuses of the program.
use Rattle.std.specs.Prelude.{ℕ, ◌≡◌, ◌⊎◌}
use Rattle.hp_cli.specs.declared.answer.Status.{Status}
use Rattle.hp_cli.specs.Answer.{code}

-- a status of a run, or the one where the system refuses the words
abbrev pub IsExit : ℕ → Type 0
IsExit n = ((s : Status) × (n ≡ code s)) ⊎ (n ≡ 15)
