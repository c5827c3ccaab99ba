-- What holds of every list of names.
use Rattle.std.specs.Prelude.{◌≡◌, ℕ, ◌≤◌, ◌<◌, ◌^◌, length, Some, slice_get}
use Rattle.std.specs.List.{All}
use Rattle.hp_tree.specs.Limits.{most_names}
use Rattle.hp_terms.specs.Weight.{IsSmallOffset}
use Rattle.hp_terms.specs.Words.{IsPlainWord}
use Rattle.hp_names.specs.Names.{AreDistinct}
use Rattle.hp_lit.specs.declared.line.Arg.{Arg}
use Rattle.hp_lit.specs.declared.line.Arg.TheVariants.{Number, Named, Index, Null}
use Rattle.hp_lit.specs.declared.line.Body.{Body}
use Rattle.hp_lit.specs.declared.line.Body.TheVariants.{Apply, Sum}
use Rattle.hp_lit.specs.declared.line.Def.{Def}
use Rattle.hp_defs.specs.First.{IsOnce}
use Rattle.hp_defs.specs.Names.{NameList, bodies, constant_words, count, definition_name, function_words}

-- what is added to an index is small
abbrev pub IsSmallArg : Arg → Type 0
IsSmallArg (Number x) = Unit {0}
IsSmallArg (Named n) = Unit {0}
IsSmallArg (Index base offset) = IsSmallOffset offset
IsSmallArg Null = Unit {0}

abbrev pub IsSmallBody : Body → Type 0
IsSmallBody (Apply func args) = All IsSmallArg args
IsSmallBody (Sum lin) = Unit {0}

pub record IsMade (names : NameList) : Type 0 where
  pub few : count names ≤ most_names
  pub distinct : AreDistinct (constant_words names)
  pub plain : All IsPlainWord (constant_words names)
  pub functions : AreDistinct (function_words names)
  pub few_functions : length names.signatures < 2 ^ 32
  pub named : (k : ℕ) (d : Def) → slice_get names.definitions k ≡ Some d → d.name ≡ definition_name names k
  pub once : IsOnce (bodies names)
  pub small : All IsSmallBody (bodies names)
