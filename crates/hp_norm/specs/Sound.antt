-- Ground sets that can be made, what comes after them, the values that go with them, and what is added to them.
use Rattle.std.specs.Prelude.{◌≡◌, ◌↔◌, ◌≤◌, ℕ, Bool, List, length, Some, slice_get, true}
use Rattle.std.specs.List.{All}
use Rattle.hp_tree.specs.Value.{Environment, Functions}
use Rattle.hp_lit.specs.declared.line.Arg.{Arg}
use Rattle.hp_lit.specs.declared.line.Body.TheVariants.{Apply}
use Rattle.hp_lit.specs.declared.line.Def.{Def}
use Rattle.hp_lit.specs.declared.line.Line.{Line}
use Rattle.hp_lit.specs.Truth.{Values, LineIsTrue}
use Rattle.hp_lit.specs.Words.{Agrees}
use Rattle.hp_defs.specs.declared.names.Ground.{Ground}
use Rattle.hp_defs.specs.Names.{NameList, words}
use Rattle.hp_defs.specs.Fit.{IsFitNames}
use Rattle.hp_defs.specs.Made.{IsMade}
use Rattle.hp_base.specs.Making.{Begins}
use Rattle.hp_base.specs.Laws.{HasSums, IsFitLine}
use Rattle.hp_base.specs.Values.{Extends, SumsHold}

-- names that can be made, definitions that fit them, literals that can be decided, and a line for each sum
pub record IsSound (g : Ground) : Type 0 where
  pub made : IsMade g.names
  pub names : IsFitNames g.names
  pub lines : All (IsFitLine g.names) g.lines
  pub sums : HasSums g

-- a ground set that begins with another, and whose names can be made
pub record IsLater (after end : Ground) : Type 0 where
  pub begins : Begins after end
  pub made : IsMade end.names

-- words have the values of their names, and definitions those of their bodies
pub record AreValues (end : Ground) (v : Values) (env : Environment) (functions : Functions) : Type 0 where
  pub agrees : Agrees (words end.names) v env
  pub extends : Extends functions end.names v

abbrev pub AreTrue : Values → List Line → Type 0
AreTrue v lines = All (λ line. LineIsTrue v line.lits) lines

-- what was there is in front, and the lines that are added are true where sums have the values of their forms
pub record Grew (before after : Ground) : Type 0 where
  pub begins : Begins before after
  pub truth : (end : Ground) (v : Values) → Begins after end → SumsHold end.names v → AreTrue v before.lines ↔ AreTrue v after.lines

-- each new definition by an application applies a function that passes the test
abbrev pub MakesOnly : (ℕ → Bool) → NameList → NameList → Type 0
MakesOnly test before after = (k : ℕ) (d : Def) (func : ℕ) (args : List Arg) → length before.definitions ≤ k → slice_get after.definitions k ≡ Some d
    → d.body ≡ Apply func args → test func ≡ true
