-- The causes that the reader gives where a token may not stand.
use Rattle.std.specs.Prelude.{◌≡◌, ℕ, List, Some, None}
use Rattle.hp_text.specs.declared.token.Token.{Token as Placed}
use Rattle.hp_grammar.specs.declared.fault.ReadErr.{ReadErr}
use Rattle.hp_grammar.specs.declared.fault.ReadErr.TheVariants.{Syntax, LongNumeral, Deep, Memory}
use Rattle.hp_grammar.specs.declared.counts.Counts.{Counts}
use Rattle.hp_read.specs.declared.stage.Progress.{Progress}
use Rattle.hp_grammar.specs.Symbols.{symbol_of}
use Rattle.hp_grammar.specs.Counts.{count}
use Rattle.hp_read.specs.Top.{top_step}

-- why a state doesn't go behind a token: it may not stand there, or it passes a limit; want of memory says nothing
abbrev pub StopsAt : List ℕ → Placed → Progress → Counts → ReadErr → Type 0
StopsAt bytes t s c (Syntax o) = (o ≡ t.start) × (top_step s (symbol_of bytes t) ≡ None)
StopsAt bytes t s c (LongNumeral o) = ⊥
StopsAt bytes t s c (Deep o) = (o ≡ t.start) × ((n : Progress) × (top_step s (symbol_of bytes t) ≡ Some n)) × (count c (symbol_of bytes t) ≡ None)
StopsAt bytes t s c Memory = Unit {0}
