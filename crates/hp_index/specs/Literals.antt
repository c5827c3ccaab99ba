-- The literals that compare two index forms, and those of an atom over index terms.
use Rattle.std.specs.Prelude.{◌==◌, Bool, true, false, if◌then◌else◌, List, [], ◌∷◌, ℤ, pos, ◌-ℤ◌, Option, Some, None}
use Rattle.hp_tree.specs.declared.problem.Cmp.{Cmp}
use Rattle.hp_tree.specs.declared.problem.Cmp.TheVariants.{Le, Lt, Eq, Ne, Ge, Gt}
use Rattle.hp_tree.specs.declared.problem.Atom.{Atom}
use Rattle.hp_tree.specs.Sides.{signed}
use Rattle.hp_tree.specs.Value.{Word}
use Rattle.hp_lit.specs.declared.literal.Name.{Name}
use Rattle.hp_lit.specs.declared.literal.Rel.{Rel}
use Rattle.hp_lit.specs.declared.literal.Rel.TheVariants as rel
use Rattle.hp_lit.specs.declared.literal.IdxLit.{IdxLit}
use Rattle.hp_lit.specs.declared.literal.Lit.{Lit}
use Rattle.hp_lit.specs.declared.literal.Lit.TheVariants.{Idx}
use Rattle.hp_index.specs.declared.form.IndexForm.{IndexForm}
use Rattle.hp_index.specs.Forms.{index_of}

-- ---- one literal
abbrev pub is_exact : Rel → Bool
is_exact rel.Le = false
is_exact rel.Lt = false
is_exact rel.Eq = true

-- a strict bound on whole numbers is the bound less one
abbrev pub bound_of : Rel → ℤ → ℤ
bound_of rel.Le bound = bound
bound_of rel.Lt bound = bound -ℤ pos 1
bound_of rel.Eq bound = bound

-- the two names are one
abbrev pub cancel : Option Name → Option Name → Bool
cancel None right = false
cancel (Some left) None = false
cancel (Some left) (Some right) = left.0 == right.0

-- left minus right with a bound, where a name on both sides cancels
abbrev pub compared : Rel → IndexForm → IndexForm → IdxLit
compared r left right = record {
  exact = is_exact r;
  left = if cancel left.base right.base then None else left.base;
  right = if cancel left.base right.base then None else right.base;
  bound = bound_of r (right.offset -ℤ left.offset);
}

-- ---- forms
-- the literals of which one is true where two forms stand in a relation
abbrev pub form_literals : Cmp → IndexForm → IndexForm → List Lit
form_literals Le left right = Idx (compared rel.Le left right) ∷ []
form_literals Lt left right = Idx (compared rel.Lt left right) ∷ []
form_literals Eq left right = Idx (compared rel.Eq left right) ∷ []
form_literals Ne left right = Idx (compared rel.Lt left right) ∷ Idx (compared rel.Lt right left) ∷ []
form_literals Ge left right = Idx (compared rel.Le right left) ∷ []
form_literals Gt left right = Idx (compared rel.Lt right left) ∷ []

-- ---- atoms
-- the literals over these words of an atom that is to be true, or, of the other sign, false
abbrev pub literals : List Word → Bool → Atom → List Lit
literals words positive atom = form_literals (signed positive atom.cmp) (index_of words atom.left) (index_of words atom.right)
