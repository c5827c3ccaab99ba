-- What the rules on clauses over fields give: each pointer that a field gives and that is read further is known not to be null.
use Rattle.std.specs.Prelude.{◌≡◌, List, [], ◌∷◌, Bool, true, false, IsTrue, Some, ◌⊎◌}
use Rattle.std.specs.List.{All, AllZip}
use Rattle.hp_tree.specs.declared.problem.Sort.{Sort}
use Rattle.hp_tree.specs.declared.problem.Sort.TheVariants.{Num, Idx, Ptr}
use Rattle.hp_tree.specs.declared.problem.Var.{Var}
use Rattle.hp_tree.specs.declared.term.Term.{Term}
use Rattle.hp_tree.specs.Value.{Word}
use Rattle.hp_terms.specs.Scope.{Profile}
use Rattle.hp_local.specs.Fields.{field_scope}
use Rattle.hp_local.specs.Frame.{Frame, is_own}
use Rattle.hp_local.specs.NullGuards.{HasNullGuard, sides_are_good}
use Rattle.hp_defs.specs.Names.{NameList}
use Rattle.hp_base.specs.Lines.{flat_scope}
use Rattle.hp_norm.specs.declared.flat.FlatClause.{FlatClause}
use Rattle.hp_norm.specs.Flat.{IsFlat, universal_of}
use Rattle.hp_norm.specs.Opening.{mentions}
use Rattle.hp_norm.specs.Scopes.{function_profile}
use Rattle.hp_flatten.specs.declared.application.Application.{Application}
use Rattle.hp_flatten.specs.Applications.{applications, clause_applications}
use Rattle.hp_null_guards.specs.Rules.{gives_pointer, has_null_guard, has_null_guards, is_over_pointers}

-- ---- applications
-- a pointer or a number
abbrev pub IsFieldSort : Sort → Type 0
IsFieldSort Num = Unit {0}
IsFieldSort Idx = ⊥
IsFieldSort Ptr = Unit {0}

-- a function of one pointer, which gives a pointer or a number
pub record IsFieldProfile (profile : Profile) : Type 0 where
  pub arguments : profile.args ≡ Ptr ∷ []
  pub result : IsFieldSort profile.result

-- an argument at a place of sort num, or without a variable and without an application
abbrev pub IsLowerArgument : List Var → Sort → Term → Type 0
IsLowerArgument vars sort term = (sort ≡ Num) ⊎ ((mentions vars term ≡ false) × (applications term ≡ []))

-- a lower function gives a number, and reads numbers and what has no variable
pub record IsLowerRead (vars : List Var) (profile : Profile) (args : List Term) : Type 0 where
  pub result : profile.result ≡ Num
  pub arguments : AllZip (IsLowerArgument vars) profile.args args

-- an application of one of these functions, which are fields, or of a lower one
pub record IsFieldRead (names : NameList) (own : Word → Bool) (vars : List Var) (a : Application) : Type 0 where
  pub profile : Profile
  pub known : function_profile names a.func ≡ Some profile
  pub field : own a.func ≡ true → IsFieldProfile profile
  pub lower : own a.func ≡ false → IsLowerRead vars profile a.args

-- ---- the laws
-- what the test for a null guard finds is one
abbrev pub NullGuardsAreFound : Type 0
NullGuardsAreFound = (c : FlatClause) (term : Term) → has_null_guard c term ≡ true → HasNullGuard (universal_of c) term

-- in a clause over fields that keeps the rules all sides are good, where constants are all names that are pointers
abbrev pub GuardedSidesAreGood : Type 0
GuardedSidesAreGood = (names : NameList) (c : FlatClause) (frame : Frame) (constant : Word → Bool) (funcs : List Word) → IsFlat names c
    → is_over_pointers names c ≡ true → has_null_guards names c ≡ true → All (IsFieldRead names (is_own funcs) c.vars) (clause_applications c)
    → ((word : Word) → (flat_scope names).name word ≡ Some Ptr → constant word ≡ true)
    → IsTrue (sides_are_good (field_scope frame (λ word. gives_pointer (function_profile names word)) constant funcs (universal_of c)) (has_null_guard c) (universal_of c))
