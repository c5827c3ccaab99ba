-- Clauses of monotone shape: which of the sixteen written forms a clause has.
use Rattle.std.specs.Prelude.{◌≡◌, List, [], ◌∷◌, Bool, true, false, ◌&&◌, not, if◌then◌else◌, Option, Some, None, option_and_then}
use Rattle.std.specs.Str.{bytes_eq}
use Rattle.hp_tree.specs.declared.term.Term.{Term, fold-Term}
use Rattle.hp_tree.specs.declared.term.Term.TheOpen.{Term-F}
use Rattle.hp_tree.specs.declared.problem.Atom.{Atom}
use Rattle.hp_tree.specs.declared.problem.Cmp.{Cmp}
use Rattle.hp_tree.specs.declared.problem.Cmp.TheVariants.{Le, Lt, Eq, Ne, Ge, Gt}
use Rattle.hp_tree.specs.declared.problem.Sort.{Sort}
use Rattle.hp_tree.specs.declared.problem.Sort.TheVariants.{Num, Idx, Ptr}
use Rattle.hp_tree.specs.declared.problem.Var.{Var}
use Rattle.hp_tree.specs.Universal.{Universal}
use Rattle.hp_tree.specs.Value.{Word}
use Rattle.hp_local.specs.Monotone.{Shape, shape_clause}
use Rattle.hp_shapes.specs.declared.shape.Form.{Form}
use Rattle.hp_shapes.specs.declared.shape.Sides.{Sides}

-- ---- the sides of an atom
-- whether a relation is `<=`, which is not turned, or `>=`, which is; any other is neither
abbrev pub turning : Cmp → Option Bool
turning Le = Some false
turning Ge = Some true
turning Lt = None
turning Eq = None
turning Ne = None
turning Gt = None

-- what is tested of a term: whether it is this name, and whether it is the function at this name
pub record Look : Type 0 where
  pub named : Bool
  pub valued : Bool

abbrev pub nothing : Look
nothing = record { named = false; valued = false }

abbrev pub one_named : List Look → Bool
one_named [] = false
one_named (a ∷ []) = a.named
one_named (a ∷ b ∷ more) = false

abbrev pub look_step : Word → Word → Term-F Look → Look
look_step func word (Term-F.Name w) = record { named = bytes_eq w word; valued = false }
look_step func word (Term-F.Apply g args) = record { named = false; valued = bytes_eq g func && one_named args }
look_step func word (Term-F.Number q) = nothing
look_step func word Term-F.Null = nothing
look_step func word (Term-F.Add a b) = nothing
look_step func word (Term-F.Sub a b) = nothing
look_step func word (Term-F.Neg a) = nothing
look_step func word (Term-F.Scale q a) = nothing

abbrev pub look : Word → Word → Term → Look
look func word = fold-Term Look (look_step func word)

abbrev pub is_name : Word → Word → Term → Bool
is_name func word t = (look func word t).named

abbrev pub is_value : Word → Word → Term → Bool
is_value func word t = (look func word t).valued

-- which side is said to be at most the other, where the left side is the first one, or the second one
abbrev pub sides_from : Bool → Bool → Option Bool → Option Sides
sides_from forward backward None = None
sides_from true backward (Some turned) = Some (record { first_less = not turned; turned = turned })
sides_from false true (Some turned) = Some (record { first_less = turned; turned = turned })
sides_from false false (Some turned) = None

abbrev pub sides_of : (Word → Term → Bool) → Word → Word → Atom → Option Sides
sides_of test x y atom = sides_from (test x atom.left && test y atom.right) (test y atom.left && test x atom.right) (turning atom.cmp)

-- ---- the form of a clause
abbrev pub is_num : Sort → Bool
is_num Num = true
is_num Idx = false
is_num Ptr = false

-- the guard says which variable is the lower one; the function rises where its values are in the same order
abbrev pub form_from : Option Sides → Option Sides → Option Form
form_from None head = None
form_from (Some g) None = None
form_from (Some g) (Some h) = Some (record { first_lower = g.first_less; rising = if g.first_less then h.first_less else not h.first_less; guard_turned = g.turned; head_turned = h.turned })

-- of two variables, a guard atom and a head atom
abbrev pub atoms_form : Word → Var → Var → Atom → Atom → Option Form
atoms_form func x y guard head =
    if is_num x.sort && is_num y.sort then form_from (sides_of (is_name func) x.name y.name guard) (sides_of (is_value func) x.name y.name head) else None

-- of a clause; any other has none
abbrev pub form_of : Word → List Var → List Atom → List Atom → Option Form
form_of func (x ∷ y ∷ []) (guard ∷ []) (head ∷ []) = atoms_form func x y guard head
form_of func _ _ _ = None

-- ---- its shape
abbrev pub shape_at : List Var → Form → Option Shape
shape_at (x ∷ y ∷ []) form = Some (record {
  first = x.name;
  second = y.name;
  first_lower = form.first_lower;
  rising = form.rising;
  guard_turned = form.guard_turned;
  head_turned = form.head_turned;
})
shape_at _ form = None

-- the shape of a clause over a function, where it has one
abbrev pub shape_of : Universal → Word → Option Shape
shape_of u func = option_and_then (shape_at u.vars) (form_of func u.vars u.guard u.head)

-- it says the clause, letter by letter
abbrev pub ShapesAreWritten : Type 0
ShapesAreWritten = (u : Universal) (func : Word) (shape : Shape) → shape_of u func ≡ Some shape → u ≡ shape_clause func shape

-- and each clause of monotone shape has it
abbrev pub ShapesAreFound : Type 0
ShapesAreFound = (func : Word) (shape : Shape) → bytes_eq shape.first shape.second ≡ false → shape_of (shape_clause func shape) func ≡ Some shape
