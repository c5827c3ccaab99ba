-- What arguments and definitions are worth, where names have values and functions are given.
use Rattle.std.specs.Prelude.{◌≡◌, ℕ, ◌+◌, List, map, length, pos, Option, Some, None, slice_get}
use Rattle.hp_math.specs.Rational.{ℚ, whole, ◌+ℚ◌}
use Rattle.hp_tree.specs.Value.{Functions}
use Rattle.hp_lit.specs.declared.line.Arg.{Arg}
use Rattle.hp_lit.specs.declared.line.Arg.TheVariants.{Number, Named, Index, Null}
use Rattle.hp_lit.specs.declared.line.Lin.{Lin}
use Rattle.hp_lit.specs.declared.line.Body.{Body}
use Rattle.hp_lit.specs.declared.line.Body.TheVariants.{Apply, Sum}
use Rattle.hp_lit.specs.declared.line.Def.{Def}
use Rattle.hp_lit.specs.Truth.{Values, name_value, optional_value}
use Rattle.hp_linear.specs.Values.{lin_value}
use Rattle.hp_defs.specs.declared.names.Signature.{Signature}
use Rattle.hp_defs.specs.Names.{NameList}

abbrev pub arg_value : Values → Arg → ℚ
arg_value v (Number q) = q
arg_value v (Named name) = name_value v name.0
arg_value v (Index base offset) = optional_value v base +ℚ whole offset
arg_value v Null = whole (pos 0)

abbrev pub arg_values : Values → List Arg → List ℚ
arg_values v args = map (arg_value v) args

-- the function of a signature; one that isn't there is 0 everywhere
abbrev pub signature_function : Functions → Option Signature → List ℚ → ℚ
signature_function functions None args = whole (pos 0)
signature_function functions (Some signature) args = functions signature.name args

abbrev pub function_at : Functions → NameList → ℕ → List ℚ → ℚ
function_at functions names func = signature_function functions (slice_get names.signatures func)

-- what a body is worth
abbrev pub body_value : Functions → NameList → Values → Body → ℚ
body_value functions names v (Apply func args) = function_at functions names func (arg_values v args)
body_value functions names v (Sum lin) = lin_value v lin

-- each definition has the value of its body
abbrev pub Extends : Functions → NameList → Values → Type 0
Extends functions names v = (k : ℕ) (d : Def) → slice_get names.definitions k ≡ Some d
    → name_value v (length names.constants + k) ≡ body_value functions names v d.body

-- each sum has the value of its form
abbrev pub SumsHold : NameList → Values → Type 0
SumsHold names v = (k : ℕ) (d : Def) (lin : Lin) → slice_get names.definitions k ≡ Some d → d.body ≡ Sum lin
    → name_value v (length names.constants + k) ≡ lin_value v lin
