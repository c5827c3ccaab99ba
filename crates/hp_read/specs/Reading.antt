-- How far the reader has come.
use Rattle.std.specs.Prelude.{◌≡◌, ℕ, List, Some}
use Rattle.hp_text.specs.declared.token.Token.{Token as Placed}
use Rattle.hp_text.specs.Lexes.{Passes}
use Rattle.hp_grammar.specs.declared.counts.Counts.{Counts}
use Rattle.hp_grammar.specs.Counts.{counted}
use Rattle.hp_grammar.specs.Runs.{runs}
use Rattle.hp_grammar.specs.Symbols.{symbols}
use Rattle.hp_read.specs.declared.stage.Progress.{Progress}
use Rattle.hp_read.specs.Top.{started, top_step}

-- what the reader has come to behind some tokens of the bytes
pub record IsReading (bytes : List ℕ) (place : ℕ) (progress : Progress) (counts : Counts) : Type 0 where
  pub tokens : List Placed
  pub passes : Passes bytes 0 tokens place
  pub goes : runs top_step started (symbols bytes tokens) ≡ Some progress
  pub within : counted (symbols bytes tokens) ≡ Some counts
