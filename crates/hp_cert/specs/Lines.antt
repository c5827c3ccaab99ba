-- The texts of lines and definitions, as they stand behind their numbers.
use Rattle.std.specs.Prelude.{ℕ, ◌-◌, List, [], ◌∷◌, ◌++◌, codes, Option, Some, None, slice_get}
use Rattle.std.specs.List.{join_by}
use Rattle.std.specs.Fmt.{decimal}
use Rattle.hp_lit.specs.declared.literal.Lit.{Lit}
use Rattle.hp_lit.specs.declared.line.Line.{Line}
use Rattle.hp_lit.specs.declared.line.Origin.{Origin}
use Rattle.hp_lit.specs.declared.line.Origin.TheVariants.{Ground as FromGround, At, Equal, SumOf}
use Rattle.hp_lit.specs.declared.line.Body.{Body}
use Rattle.hp_lit.specs.declared.line.Body.TheVariants.{Apply, Sum}
use Rattle.hp_lit.specs.declared.line.Def.{Def}
use Rattle.hp_defs.specs.declared.names.Signature.{Signature}
use Rattle.hp_defs.specs.declared.names.Ground.{Ground}
use Rattle.hp_defs.specs.Names.{NameList}
use Rattle.hp_cert.specs.Forms.{name_text, arg_text, lin_text}
use Rattle.hp_cert.specs.Literals.{lit_text}

-- where a line comes from
abbrev pub origin_text : NameList → Origin → List ℕ
origin_text names (FromGround clause) = codes "clause " ++ decimal clause
origin_text names (At clause tuple) = codes "clause " ++ decimal clause ++ codes " at " ++ join_by (arg_text names) (codes ", ") tuple
origin_text names (Equal left right) = codes "equal " ++ name_text names left ++ codes ", " ++ name_text names right
origin_text names (SumOf name) = codes "sum " ++ name_text names name

-- the choice between literals, which is false where there is none
abbrev pub lits_text : NameList → List Lit → List ℕ
lits_text names [] = codes "false"
lits_text names (lit ∷ lits) = join_by (lit_text names) (codes " | ") (lit ∷ lits)

abbrev pub full_line_text : NameList → Option Line → List ℕ
full_line_text names None = []
full_line_text names (Some line) = origin_text names line.origin ++ codes ": " ++ lits_text names line.lits

-- the line with this number, counted from 1
abbrev pub line_text : Ground → ℕ → List ℕ
line_text g number = full_line_text g.names (slice_get g.lines (number - 1))

abbrev pub function_name : Option Signature → List ℕ
function_name None = []
function_name (Some signature) = signature.name

abbrev pub body_text : NameList → Body → List ℕ
body_text names (Apply func args) = function_name (slice_get names.signatures func) ++ codes "(" ++ join_by (arg_text names) (codes ", ") args ++ codes ")"
body_text names (Sum lin) = lin_text names lin

abbrev pub full_def_text : NameList → Option Def → List ℕ
full_def_text names None = []
full_def_text names (Some def) = body_text names def.body

-- the definition with this number, counted from 1
abbrev pub def_text : NameList → ℕ → List ℕ
def_text names number = full_def_text names (slice_get names.definitions (number - 1))
