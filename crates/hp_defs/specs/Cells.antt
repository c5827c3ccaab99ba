-- Bodies as lists of flat cells, from which they can be had again.
use Rattle.std.specs.Prelude.{ℤ, pos, List, ◌∷◌, map, Option, Some, None}
use Rattle.hp_lit.specs.declared.literal.Name.{Name}
use Rattle.hp_lit.specs.declared.line.Arg.{Arg}
use Rattle.hp_lit.specs.declared.line.Arg.TheVariants.{Number, Named, Index, Null}
use Rattle.hp_lit.specs.declared.line.LinPart.{LinPart}
use Rattle.hp_lit.specs.declared.line.Body.{Body}
use Rattle.hp_lit.specs.declared.line.Body.TheVariants.{Apply, Sum}
use Rattle.hp_lit.specs.declared.line.Def.{Def}
use Rattle.hp_defs.specs.declared.cell.Cell.{Cell}
use Rattle.hp_defs.specs.declared.cell.Cell.TheVariants as cell

abbrev pub index_cell : Option Name → ℤ → Cell
index_cell None offset = cell.Offset offset
index_cell (Some n) offset = cell.Shifted n.0 offset

abbrev pub arg_cell : Arg → Cell
arg_cell (Number q) = cell.Number q.num (pos q.den)
arg_cell (Named n) = cell.Named n.0
arg_cell (Index base offset) = index_cell base offset
arg_cell Null = cell.Null

abbrev pub part_cell : LinPart → Cell
part_cell p = cell.Multiple p.name.0 p.coef.num (pos p.coef.den)

-- the function or the number of a sum, and then the arguments or the summands in their order
abbrev pub body_cells : Body → List Cell
body_cells (Apply func args) = cell.Function func ∷ map arg_cell args
body_cells (Sum lin) = cell.Number lin.rest.num (pos lin.rest.den) ∷ map part_cell lin.parts

abbrev pub definition_cells : Def → List Cell
definition_cells d = body_cells d.body
