-- The arguments of applications: what a term is where it stands as one.
use Rattle.std.specs.Prelude.{ℕ, List, [], ◌∷◌, Bool, ◌&&◌, pos, if◌then◌else◌, Option, Some, None}
use Rattle.hp_math.specs.Rational.{ℚ, whole, eq_ℚ}
use Rattle.hp_tree.specs.declared.term.Term.{Term}
use Rattle.hp_tree.specs.declared.problem.Sort.{Sort}
use Rattle.hp_tree.specs.declared.problem.Sort.TheVariants.{Num, Idx, Ptr}
use Rattle.hp_lit.specs.declared.literal.Name.{Name}
use Rattle.hp_lit.specs.declared.line.Arg.{Arg}
use Rattle.hp_lit.specs.declared.line.Arg.TheVariants.{Number, Named, Index, Null}
use Rattle.hp_lit.specs.declared.line.Lin.{Lin}
use Rattle.hp_lit.specs.declared.line.LinPart.{LinPart}
use Rattle.hp_linear.specs.Lins.{lin_of}
use Rattle.hp_index.specs.declared.form.IndexForm.{IndexForm}
use Rattle.hp_index.specs.Forms.{index_of}
use Rattle.hp_index.specs.Pointers.{pointer_of}
use Rattle.hp_defs.specs.Names.{words}
use Rattle.hp_base.specs.Making.{Maker, ◌then◌, computed, keep}
use Rattle.hp_base.specs.Defining.{sum_of}

-- ---- of sort num
abbrev pub named_sum : ℕ → Lin → Maker Arg
named_sum item lin g = sum_of item lin g then λ name. keep (Named name)

-- a name alone: one copy of it and nothing else
abbrev pub is_alone : LinPart → ℚ → Bool
is_alone part rest = eq_ℚ part.coef (whole (pos 1)) && eq_ℚ rest (whole (pos 0))

-- a number where no name is in the form, a name where the form is that name alone, and else a sum
abbrev pub parts_argument : ℕ → Lin → List LinPart → Maker Arg
parts_argument item lin [] = keep (Number lin.rest)
parts_argument item lin (part ∷ []) = if is_alone part lin.rest then keep (Named part.name) else named_sum item lin
parts_argument item lin (part ∷ more ∷ parts) = named_sum item lin

abbrev pub lin_argument : ℕ → Lin → Maker Arg
lin_argument item lin = parts_argument item lin lin.parts

-- ---- of the other sorts
abbrev pub form_argument : IndexForm → Arg
form_argument form = Index form.base form.offset

abbrev pub pointer_argument : Option Name → Arg
pointer_argument None = Null
pointer_argument (Some name) = Named name

-- ---- of each sort
-- the argument that a term without applications is at a place of a sort
abbrev pub argument_of : ℕ → Sort → Term → Maker Arg
argument_of item Num term g = computed item (lin_of (words g.names) term) g then lin_argument item
argument_of item Idx term g = keep (form_argument (index_of (words g.names) term)) g
argument_of item Ptr term g = keep (pointer_argument (pointer_of (words g.names) term)) g
