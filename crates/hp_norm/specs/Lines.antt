-- The lines of clauses without variables: their applications are named first, and then their literals are formed.
use Rattle.std.specs.Prelude.{ℕ, ◌+◌, List, [], ◌∷◌, length, Bool, true, false, nat_lt, if◌then◌else◌, Result, Ok, Err}
use Rattle.hp_num.specs.Wide.{◌>>=◌}
use Rattle.hp_tree.specs.Limits.{most_names}
use Rattle.hp_tree.specs.declared.limit.Limit.{Limit}
use Rattle.hp_tree.specs.declared.problem.Atom.{Atom}
use Rattle.hp_tree.specs.declared.problem.Clause.{Clause}
use Rattle.hp_tree.specs.declared.problem.Decl.{Decl}
use Rattle.hp_tree.specs.declared.problem.Decl.TheVariants.{Const, Fun}
use Rattle.hp_terms.specs.Sorting.{sort_of}
use Rattle.hp_lit.specs.declared.literal.Lit.{Lit}
use Rattle.hp_lit.specs.declared.line.Line.{Line}
use Rattle.hp_lit.specs.declared.line.Origin.TheVariants.{Ground as FromClause}
use Rattle.hp_lit.specs.Limited.{many_names}
use Rattle.hp_linear.specs.Steps.{Refusable, behind}
use Rattle.hp_defs.specs.declared.names.Constant.{Constant}
use Rattle.hp_defs.specs.declared.names.Ground.{Ground}
use Rattle.hp_defs.specs.declared.names.Signature.{Signature}
use Rattle.hp_defs.specs.Names.{NameList, words}
use Rattle.hp_base.specs.Making.{Maker, ◌then◌, computed}
use Rattle.hp_base.specs.Lines.{add_line, flat_scope, literals_as}
use Rattle.hp_norm.specs.Naming.{named_atoms}

-- ---- literals
abbrev pub atom_literals : NameList → Bool → Atom → Refusable (List Lit)
atom_literals names positive atom = literals_as (sort_of (flat_scope names) atom) (words names) positive atom

abbrev pub atoms_literals : NameList → Bool → List Atom → Refusable (List Lit)
atoms_literals names positive [] = Ok []
atoms_literals names positive (atom ∷ atoms) = atom_literals names positive atom >>= λ lits. behind lits (atoms_literals names positive atoms)

-- those of the guard, whose atoms are to be false, and then those of the head
abbrev pub flat_literals : NameList → List Atom → List Atom → Refusable (List Lit)
flat_literals names guard head = atoms_literals names false guard >>= λ lits. behind lits (atoms_literals names true head)

-- ---- lines
abbrev pub from_clause : ℕ → List Lit → Line
from_clause number lits = record { lits = lits; origin = FromClause number }

abbrev pub flat_line : ℕ → ℕ → List Atom → List Atom → Maker (Unit {0})
flat_line item number guard head g = computed item (flat_literals g.names guard head) g then λ lits. add_line (from_clause number lits)

-- the line of the clause with this number, which is this item
abbrev pub ground_line : ℕ → ℕ → Clause → Maker (Unit {0})
ground_line item number clause g =
    named_atoms item clause.guard g then λ guard. λ mid.
    named_atoms item clause.head mid then λ head.
    flat_line item number guard head

-- ---- declarations
abbrev pub constants_of : List Decl → List Constant
constants_of [] = []
constants_of (Const name sort ∷ decls) = record { name = name; sort = sort } ∷ constants_of decls
constants_of (Fun name args result level ∷ decls) = constants_of decls

-- functions with the items that declare them, the first declaration being this item
abbrev pub signatures_from : ℕ → List Decl → List Signature
signatures_from item [] = []
signatures_from item (Const name sort ∷ decls) = signatures_from (item + 1) decls
signatures_from item (Fun name args result level ∷ decls) = record { name = name; args = args; result = result; level = level; item = item } ∷ signatures_from (item + 1) decls

abbrev pub declared_names : List Decl → NameList
declared_names decls = record { constants = constants_of decls; signatures = signatures_from 1 decls; definitions = [] }

abbrev pub declared_ground : List Decl → Ground
declared_ground decls = record { names = declared_names decls; lines = [] }

-- the declared names, where there may be so many
abbrev pub start : List Decl → Result Ground Limit
start decls = if nat_lt most_names (length (constants_of decls)) then Err many_names else Ok (declared_ground decls)
