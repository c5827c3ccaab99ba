-- The values that a structure gives to its constants and functions.
use Rattle.std.specs.Prelude.{ℕ, zero, suc, List, [], ◌∷◌, if◌then◌else◌, pos, codes, slice_index_or}
use Rattle.std.specs.Str.{bytes_eq}
use Rattle.hp_math.specs.Rational.{ℚ, whole}
use Rattle.hp_tree.specs.declared.term.Term.{Term}
use Rattle.hp_model.specs.declared.structure.ConstValue.{ConstValue}
use Rattle.hp_model.specs.declared.structure.Row.{Row}
use Rattle.hp_model.specs.declared.structure.Table.{Table}
use Rattle.hp_model.specs.declared.structure.Structure.{Structure}
use Rattle.hp_tree.specs.Value.{Word, Environment, Functions, value, all_true}

-- the name and the value of a constant
abbrev pub entry_name : ConstValue → Word
entry_name c = c.name

abbrev pub entry_value : ConstValue → ℚ
entry_value c = c.value

-- the value of the first entry with this name, or 0
abbrev pub constant : List ConstValue → Environment
constant [] name = whole (pos 0)
constant (c ∷ cs) name = if bytes_eq c.name name then c.value else constant cs name

-- `$1` to `$4` are the arguments, and every other name is a constant
abbrev pub with_arguments : List ℚ → Environment → Environment
with_arguments args names name =
    if bytes_eq name (codes "$1") then slice_index_or args 0 (whole (pos 0))
    else if bytes_eq name (codes "$2") then slice_index_or args 1 (whole (pos 0))
    else if bytes_eq name (codes "$3") then slice_index_or args 2 (whole (pos 0))
    else if bytes_eq name (codes "$4") then slice_index_or args 3 (whole (pos 0))
    else names name

-- the value of the first row whose guard is true, else of the last term
abbrev pub rows_value : Environment → Functions → List Row → Term → ℚ
rows_value names functions [] otherwise = value names functions otherwise
rows_value names functions (row ∷ rows) otherwise =
    if all_true names functions row.guard then value names functions row.value else rows_value names functions rows otherwise

abbrev pub tables_value : Environment → Functions → List Table → Functions
tables_value consts lower [] func args = whole (pos 0)
tables_value consts lower (table ∷ tables) func args =
    if bytes_eq table.func func then rows_value (with_arguments args consts) lower table.rows table.otherwise
    else tables_value consts lower tables func args

-- the functions, where a table may use those that are given for one level less
abbrev pub functions_below : ℕ → Structure → Functions
functions_below zero s func args = whole (pos 0)
functions_below (suc level) s func args = tables_value (constant s.consts) (functions_below level s) s.tables func args

-- the levels are 1 to 16
unfoldable pub functions_of : Structure → Functions
functions_of s = functions_below 16 s
