-- The text of a structure: a line for the universe, one for each constant, and for each function its table.
use Rattle.std.specs.Prelude.{ℕ, ◌++◌, List, [], ◌∷◌, codes}
use Rattle.std.specs.List.{flat_map, join_by}
use Rattle.std.specs.Fmt.{decimal}
use Rattle.hp_tree.specs.declared.problem.Atom.{Atom}
use Rattle.hp_ast.specs.Printing.{atom_text, frac_text, line, term_text}
use Rattle.hp_model.specs.declared.structure.ConstValue.{ConstValue}
use Rattle.hp_model.specs.declared.structure.Row.{Row}
use Rattle.hp_model.specs.declared.structure.Table.{Table}
use Rattle.hp_model.specs.declared.structure.Structure.{Structure}

abbrev pub universe_line : ℕ → List ℕ
universe_line size = line (codes "universe " ++ decimal size)

abbrev pub const_line : ConstValue → List ℕ
const_line c = line (codes "const " ++ c.name ++ codes " = " ++ frac_text c.value)

-- ---- tables
-- `A & A`, and `true` where there is no atom
abbrev pub condition_text : List Atom → List ℕ
condition_text [] = codes "true"
condition_text (atom ∷ atoms) = join_by atom_text (codes " & ") (atom ∷ atoms)

abbrev pub row_line : Row → List ℕ
row_line row = line (condition_text row.guard ++ codes " -> " ++ term_text row.value)

-- the name of the function with the number of its arguments, its rows, the last term, and a line that ends the table
abbrev pub table_text : Table → List ℕ
table_text table =
    line (codes "fun " ++ table.func ++ codes "/" ++ decimal table.args)
    ++ flat_map row_line table.rows
    ++ line (codes "else " ++ term_text table.otherwise)
    ++ line (codes "end")

abbrev pub structure_text : Structure → List ℕ
structure_text s = universe_line s.universe ++ flat_map const_line s.consts ++ flat_map table_text s.tables
