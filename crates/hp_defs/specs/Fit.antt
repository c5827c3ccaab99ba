-- Definitions whose functions are known, and whose arguments have the sorts that these ask for.
use Rattle.std.specs.Prelude.{◌≡◌, ℕ, List, map, Option, Some, slice_get}
use Rattle.std.specs.List.{All, AllZip}
use Rattle.std.specs.List.Sorted.{IsStrictlyIncreasing}
use Rattle.hp_tree.specs.declared.problem.Sort.{Sort}
use Rattle.hp_tree.specs.declared.problem.Sort.TheVariants.{Num, Idx, Ptr}
use Rattle.hp_lit.specs.Fit.{IsIdxSide}
use Rattle.hp_lit.specs.declared.line.Arg.{Arg}
use Rattle.hp_lit.specs.declared.line.Arg.TheVariants.{Number, Named, Index, Null}
use Rattle.hp_lit.specs.declared.line.LinPart.{LinPart}
use Rattle.hp_lit.specs.declared.line.Lin.{Lin}
use Rattle.hp_lit.specs.declared.line.Body.{Body}
use Rattle.hp_lit.specs.declared.line.Body.TheVariants.{Apply, Sum}
use Rattle.hp_lit.specs.declared.line.Def.{Def}
use Rattle.hp_defs.specs.declared.names.Signature.{Signature}
use Rattle.hp_defs.specs.Names.{NameList, first_names, sorts}

-- the argument has the sort, over names with these sorts
abbrev pub ArgFits : List Sort → Sort → Arg → Type 0
ArgFits sorts Num (Number x) = Unit {0}
ArgFits sorts Num (Named n) = slice_get sorts n.0 ≡ Some Num
ArgFits sorts Idx (Index base offset) = IsIdxSide sorts base
ArgFits sorts Ptr (Named n) = slice_get sorts n.0 ≡ Some Ptr
ArgFits sorts Ptr Null = Unit {0}
ArgFits _ _ _ = ⊥

-- a function at arguments of its number and sorts
pub record ApplicationFits (sorts : List Sort) (signature : Option Signature) (args : List Arg) : Type 0 where
  pub known : Signature
  pub found : signature ≡ Some known
  pub args_fit : AllZip (ArgFits sorts) known.args args

-- names of sort num, which rise strictly
pub record SumFits (sorts : List Sort) (lin : Lin) : Type 0 where
  pub rising : IsStrictlyIncreasing (map (λ (p : LinPart). p.name.0) lin.parts)
  pub names : All (λ p. slice_get sorts p.name.0 ≡ Some Num) lin.parts

abbrev pub BodyFits : NameList → Body → Type 0
BodyFits names (Apply func args) = ApplicationFits (sorts names) (slice_get names.signatures func) args
BodyFits names (Sum lin) = SumFits (sorts names) lin

-- the definition at this place is over the names before it
abbrev pub DefinitionFits : NameList → ℕ → Def → Type 0
DefinitionFits names k d = BodyFits (first_names k names) d.body

abbrev pub IsFitNames : NameList → Type 0
IsFitNames names = (k : ℕ) (d : Def) → slice_get names.definitions k ≡ Some d → DefinitionFits names k d
