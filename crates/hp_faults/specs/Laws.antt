-- How many faults a text can have.
use Rattle.std.specs.Prelude.{ℕ, List, ◌≡◌, ◌≢◌}
use Rattle.hp_grammar.specs.declared.fault.ReadErr.{ReadErr}
use Rattle.hp_grammar.specs.declared.fault.ReadErr.TheVariants.{Memory}
use Rattle.hp_grammar.specs.Spells.{IsFault}

-- no two, neither at two places nor of two causes at one; want of memory is aside, since it says nothing of the text
abbrev pub OneFault : Type 0
OneFault = (bytes : List ℕ) (e f : ReadErr) → IsFault bytes e → IsFault bytes f → e ≢ Memory → f ≢ Memory → e ≡ f
