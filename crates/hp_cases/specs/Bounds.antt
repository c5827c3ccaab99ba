-- The bound that a clause over the words of arguments gives the value of its function: the other side of its head atom.
use Rattle.std.specs.Prelude.{List, [], ◌∷◌, Bool, false, if◌then◌else◌, Option, Some, None}
use Rattle.std.specs.Str.{bytes_eq}
use Rattle.hp_tree.specs.declared.term.Term.{Term, out-Term}
use Rattle.hp_tree.specs.declared.term.Term.TheOpen.{Term-F}
use Rattle.hp_tree.specs.declared.problem.Atom.{Atom}
use Rattle.hp_tree.specs.declared.problem.Cmp.{Cmp}
use Rattle.hp_tree.specs.declared.problem.Cmp.TheVariants.{Le, Lt, Eq, Ne, Ge, Gt}
use Rattle.hp_tree.specs.Value.{Word}
use Rattle.hp_cases.specs.declared.case.Bound.{Bound}
use Rattle.hp_cases.specs.declared.case.Bound.TheVariants.{Low, High, Same}

-- an application of the function
abbrev pub applies_it : Word → Term-F Term → Bool
applies_it func (Term-F.Apply word args) = bytes_eq word func
applies_it func _ = false

-- what a term is to the value of the function that stands on the left of it
abbrev pub bound_right : Cmp → Term → Option Bound
bound_right Le t = Some (High t)
bound_right Ge t = Some (Low t)
bound_right Eq t = Some (Same t)
bound_right Lt t = None
bound_right Gt t = None
bound_right Ne t = None

-- and on the right
abbrev pub bound_left : Cmp → Term → Option Bound
bound_left Le t = Some (Low t)
bound_left Ge t = Some (High t)
bound_left Eq t = Some (Same t)
bound_left Lt t = None
bound_left Gt t = None
bound_left Ne t = None

abbrev pub atom_bound : Word → Atom → Option Bound
atom_bound func atom =
    if applies_it func (out-Term atom.left) then bound_right atom.cmp atom.right
    else if applies_it func (out-Term atom.right) then bound_left atom.cmp atom.left
    else None

-- that of a head of one atom, by `<=`, `>=` or `=`, with the function alone on one side
abbrev pub head_bound : Word → List Atom → Option Bound
head_bound func (atom ∷ []) = atom_bound func atom
head_bound func _ = None

-- ---- the value that is bounded
-- the side that the function is on
abbrev pub atom_value : Word → Atom → Term
atom_value func atom = if applies_it func (out-Term atom.left) then atom.left else atom.right

abbrev pub head_value : Word → List Atom → Option Term
head_value func (atom ∷ []) = Some (atom_value func atom)
head_value func _ = None
