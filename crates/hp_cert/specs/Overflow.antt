-- The text of a strain: where a number is too wide, and the operation that made it.
use Rattle.std.specs.Prelude.{ℕ, List, ◌++◌, codes}
use Rattle.std.specs.List.{flat_map}
use Rattle.std.specs.Fmt.{decimal, signed_decimal}
use Rattle.hp_num.specs.declared.wide.Op.{Op}
use Rattle.hp_num.specs.declared.wide.Op.TheVariants.{Times, Plus, Minus}
use Rattle.hp_num.specs.declared.wide.Wide.{Wide}
use Rattle.hp_lit.specs.declared.proof.Choice.{Choice}
use Rattle.hp_descent.specs.declared.answer.At.{At}
use Rattle.hp_descent.specs.declared.answer.At.TheVariants.{Row, Point, Literal}
use Rattle.hp_descent.specs.declared.answer.Form.{Form}
use Rattle.hp_descent.specs.declared.answer.Form.TheVariants.{Elimination, Coordinate, Sum, Value}
use Rattle.hp_descent.specs.declared.answer.RowStrain.{RowStrain}
use Rattle.hp_descent.specs.declared.answer.Place.{Place}
use Rattle.hp_descent.specs.declared.answer.Place.TheVariants.{Path}
use Rattle.hp_descent.specs.declared.answer.Strain.{Strain}

-- a literal of a line
abbrev pub choice_text : Choice → List ℕ
choice_text choice = codes " " ++ decimal choice.line ++ codes "." ++ decimal choice.lit

abbrev pub place_text : Place → List ℕ
place_text (Path choices) = codes "path" ++ flat_map choice_text choices

-- a row of the chain
abbrev pub row_text : ℕ → List ℕ
row_text row = codes " " ++ decimal row

-- a row, the point of the chain, or a literal of a line
abbrev pub at_text : At → List ℕ
at_text (Row row) = decimal row
at_text Point = codes "point"
at_text (Literal line lit) = decimal line ++ codes "." ++ decimal lit

-- the number of a form
abbrev pub form_text : Form → List ℕ
form_text Elimination = codes "1"
form_text Coordinate = codes "2"
form_text Sum = codes "3"
form_text Value = codes "4"

abbrev pub operation_text : Op → List ℕ
operation_text Times = codes " * "
operation_text Plus = codes " + "
operation_text Minus = codes " - "

-- an operation between its two numbers
abbrev pub wide_text : Wide → List ℕ
wide_text wide = signed_decimal wide.left ++ operation_text wide.op ++ signed_decimal wide.right

-- the chain, where on the way and in which form the number is too wide, the operation, and a line feed
abbrev pub row_strain_text : RowStrain → List ℕ
row_strain_text row =
    codes "; chain" ++ flat_map row_text row.chain ++ codes "; at " ++ at_text row.at ++ codes "; form " ++ form_text row.form ++ codes "; "
    ++ wide_text row.wide ++ codes "\n"

-- the place, and the strain there
abbrev pub overflow_text : Strain → List ℕ
overflow_text strain = codes "overflow " ++ place_text strain.place ++ row_strain_text strain.row

-- two clauses of a rule
abbrev pub pair_text : ℕ → ℕ → ℕ → List ℕ
pair_text rule clause other = codes "rule " ++ decimal rule ++ codes " clause " ++ decimal clause ++ codes " with " ++ decimal other

-- the rule with its two clauses, and the strain there
abbrev pub pair_overflow_text : ℕ → ℕ → ℕ → RowStrain → List ℕ
pair_overflow_text rule clause other row = codes "overflow " ++ pair_text rule clause other ++ row_strain_text row
