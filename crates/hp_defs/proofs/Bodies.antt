-- Equal cells are cells of equal bodies: a body can be had again from its cells.
use Rattle.std.proofs.Common.{◌≡◌, pos, List, [], ◌∷◌, map, Some, None, refl, sym, ap, ◌∙◌}
use Rattle.std.specs.Prelude.{unsigned_abs}
use Rattle.hp_math.specs.Rational.{ratio}
use Rattle.hp_math.proofs.Rational.{ratio-parts}
use Rattle.hp_lit.specs.declared.line.Arg.{Arg}
use Rattle.hp_lit.specs.declared.line.Arg.TheVariants.{Number, Named, Index, Null}
use Rattle.hp_lit.specs.declared.line.LinPart.{LinPart}
use Rattle.hp_lit.specs.declared.line.Body.{Body}
use Rattle.hp_lit.specs.declared.line.Body.TheVariants.{Apply, Sum}
use Rattle.hp_defs.specs.declared.cell.Cell.{Cell}
use Rattle.hp_defs.specs.declared.cell.Cell.TheVariants as cell
use Rattle.hp_defs.specs.Cells.{arg_cell, part_cell, body_cells}

abbrev arg_of : Cell → Arg
arg_of (cell.Number top below) = Number (ratio top (unsigned_abs below))
arg_of (cell.Named n) = Named (record { 0 = n })
arg_of (cell.Shifted n offset) = Index (Some (record { 0 = n })) offset
arg_of (cell.Offset offset) = Index None offset
arg_of _ = Null

abbrev part_of : Cell → LinPart
part_of (cell.Multiple n top below) = record { name = record { 0 = n }; coef = ratio top (unsigned_abs below) }
part_of _ = record { name = record { 0 = 0 }; coef = ratio (pos 0) 1 }

abbrev body_of : List Cell → Body
body_of (cell.Function func ∷ cs) = Apply func (map arg_of cs)
body_of (cell.Number top below ∷ cs) = Sum (record { parts = map part_of cs; rest = ratio top (unsigned_abs below) })
body_of _ = Apply 0 []

arg_again : (x : Arg) → arg_of (arg_cell x) ≡ x
arg_again (Number q) = ap Number (ratio-parts q)
arg_again (Named n) = refl
arg_again (Index None offset) = refl
arg_again (Index (Some n) offset) = refl
arg_again Null = refl

part_again : (p : LinPart) → part_of (part_cell p) ≡ p
part_again p = λ i. record { name = p.name; coef = ratio-parts p.coef i }

all_again : {A B : Type 0} (f : A → B) (g : B → A) → ((x : A) → g (f x) ≡ x) → (xs : List A) → map g (map f xs) ≡ xs
all_again f g again [] = refl
all_again f g again (x ∷ xs) = λ i. again x i ∷ all_again f g again xs i

body_again : (b : Body) → body_of (body_cells b) ≡ b
body_again (Apply func args) = ap (Apply func) (all_again arg_cell arg_of arg_again args)
body_again (Sum lin) = λ i. Sum (record { parts = all_again part_cell part_of part_again lin.parts i; rest = ratio-parts lin.rest i })

pub cells_inject : (a b : Body) → body_cells a ≡ body_cells b → a ≡ b
cells_inject a b e = sym (body_again a) ∙ ap body_of e ∙ body_again b
