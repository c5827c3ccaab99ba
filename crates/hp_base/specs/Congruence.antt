-- Equal arguments give equal values: the line of two applications of one function.
use Rattle.std.specs.Prelude.{ℕ, List, [], ◌∷◌, pos, Option, Some, None, Ok, slice_get}
use Rattle.hp_num.specs.Wide.{◌>>=◌}
use Rattle.hp_tree.specs.declared.problem.Sort.{Sort}
use Rattle.hp_tree.specs.declared.problem.Sort.TheVariants.{Num, Idx, Ptr}
use Rattle.hp_tree.specs.declared.problem.Cmp.{Cmp}
use Rattle.hp_tree.specs.declared.problem.Cmp.TheVariants.{Eq, Ne}
use Rattle.hp_lit.specs.declared.literal.Name.{Name}
use Rattle.hp_lit.specs.declared.literal.Lit.{Lit}
use Rattle.hp_lit.specs.declared.literal.Lit.TheVariants as lit
use Rattle.hp_lit.specs.declared.line.Arg.{Arg}
use Rattle.hp_lit.specs.declared.line.Arg.TheVariants.{Number, Named, Index, Null}
use Rattle.hp_lit.specs.declared.line.Lin.{Lin}
use Rattle.hp_lit.specs.declared.line.Body.{Body}
use Rattle.hp_lit.specs.declared.line.Body.TheVariants.{Apply, Sum}
use Rattle.hp_lit.specs.declared.line.Def.{Def}
use Rattle.hp_lit.specs.declared.line.Origin.TheVariants.{Equal}
use Rattle.hp_linear.specs.Steps.{Refusable, behind}
use Rattle.hp_linear.specs.Lins.{named_lin, number_lin, zero_lin}
use Rattle.hp_linear.specs.Literals.{lin_literals}
use Rattle.hp_index.specs.declared.form.IndexForm.{IndexForm}
use Rattle.hp_index.specs.Forms.{above}
use Rattle.hp_index.specs.Literals.{form_literals}
use Rattle.hp_index.specs.Pointers.{asks_same}
use Rattle.hp_defs.specs.declared.names.Signature.{Signature}
use Rattle.hp_base.specs.Making.{Maker, ◌then◌, computed}
use Rattle.hp_base.specs.Lines.{add_line}

-- ---- what an argument is, compared as one of a sort
abbrev pub arg_lin : Arg → Lin
arg_lin (Number q) = number_lin q
arg_lin (Named name) = named_lin name
arg_lin (Index base offset) = zero_lin
arg_lin Null = zero_lin

abbrev pub arg_form : Arg → IndexForm
arg_form (Number q) = above None (pos 0)
arg_form (Named name) = above (Some name) (pos 0)
arg_form (Index base offset) = above base offset
arg_form Null = above None (pos 0)

abbrev pub arg_pointer : Arg → Option Name
arg_pointer (Number q) = None
arg_pointer (Named name) = Some name
arg_pointer (Index base offset) = None
arg_pointer Null = None

-- that two pointers are the same, or are not
abbrev pub pair_literals : Cmp → Option Name → Option Name → List Lit
pair_literals cmp left right = lit.Ptr (record { same = asks_same cmp; left = left; right = right }) ∷ []

-- the literals that compare two arguments of a sort
abbrev pub arg_literals : Sort → Cmp → Arg → Arg → Refusable (List Lit)
arg_literals Num cmp x y = lin_literals cmp (arg_lin x) (arg_lin y)
arg_literals Idx cmp x y = Ok (form_literals cmp (arg_form x) (arg_form y))
arg_literals Ptr cmp x y = Ok (pair_literals cmp (arg_pointer x) (arg_pointer y))

-- ---- the line
-- that two arguments differ at one of the places
abbrev pub apart_literals : List Sort → List Arg → List Arg → Refusable (List Lit)
apart_literals (sort ∷ sorts) (x ∷ xs) (y ∷ ys) = arg_literals sort Ne x y >>= λ lits. behind lits (apart_literals sorts xs ys)
apart_literals _ _ _ = Ok []

-- an application, with the name that stands for it
pub record Point : Type 0 where
  pub name : Name
  pub args : List Arg

-- a name as an argument of a sort
abbrev pub value_arg : Sort → Name → Arg
value_arg Num name = Named name
value_arg Idx name = Index (Some name) (pos 0)
value_arg Ptr name = Named name

-- that the arguments differ or the values are equal
abbrev pub congruence_literals : Signature → Point → Point → Refusable (List Lit)
congruence_literals signature p q =
    apart_literals signature.args p.args q.args >>= λ lits.
    behind lits (arg_literals signature.result Eq (value_arg signature.result p.name) (value_arg signature.result q.name))

abbrev pub congruence_of : Signature → Point → Point → Maker (Unit {0})
congruence_of signature p q g =
    computed signature.item (congruence_literals signature p q) g then λ lits.
    add_line (record { lits = lits; origin = Equal p.name q.name })

-- ---- of definitions
-- the arguments of an application
abbrev pub body_args : Body → List Arg
body_args (Apply func args) = args
body_args (Sum lin) = []

-- the application that a definition stands for
abbrev pub point_of : Def → Point
point_of d = record { name = d.name; args = body_args d.body }

abbrev pub congruence_between : Option Signature → Option Def → Option Def → Maker (Unit {0})
congruence_between (Some signature) (Some left) (Some right) g = congruence_of signature (point_of left) (point_of right) g
congruence_between _ _ _ g = Ok (tt, g)

-- the line of the definitions at two places, of which both apply the function at a place
abbrev pub congruence_at : ℕ → ℕ → ℕ → Maker (Unit {0})
congruence_at func left right g =
    congruence_between (slice_get g.names.signatures func) (slice_get g.names.definitions left) (slice_get g.names.definitions right) g
