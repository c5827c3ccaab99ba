-- The lines of a clause with variables at arguments: variables are replaced, applications named, and then literals formed,
-- each by the sort that its atom has in the clause.
use Rattle.std.specs.Prelude.{◌≡◌, ◌≤◌, ℕ, List, [], ◌∷◌, map, Bool, true, false, Ok}
use Rattle.hp_num.specs.Wide.{◌>>=◌}
use Rattle.hp_tree.specs.declared.problem.Sort.{Sort}
use Rattle.hp_tree.specs.declared.problem.Sort.TheVariants.{Idx}
use Rattle.hp_tree.specs.declared.problem.Atom.{Atom}
use Rattle.hp_terms.specs.Scope.{Scope}
use Rattle.hp_terms.specs.Sorting.{sort_of}
use Rattle.hp_terms.specs.Weight.{weight}
use Rattle.hp_lit.specs.declared.literal.Lit.{Lit}
use Rattle.hp_lit.specs.declared.line.Line.{Line}
use Rattle.hp_lit.specs.declared.line.Arg.{Arg}
use Rattle.hp_lit.specs.declared.line.Origin.TheVariants.{At}
use Rattle.hp_index.specs.Fit.{largest_side}
use Rattle.hp_linear.specs.Steps.{Refusable, behind}
use Rattle.hp_defs.specs.Names.{NameList, words}
use Rattle.hp_base.specs.Making.{Maker, ◌then◌, computed}
use Rattle.hp_base.specs.Lines.{add_line, literals_as}
use Rattle.hp_norm.specs.declared.flat.FlatClause.{FlatClause}
use Rattle.hp_norm.specs.Naming.{named_atoms}
use Rattle.hp_norm.specs.Scopes.{clause_scope}
use Rattle.hp_instance.specs.declared.tuple.Tuple.{Tuple}
use Rattle.hp_instance.specs.Replacing.{replaced_atoms}

-- ---- literals
-- those of atoms of these sorts, which are to be true, or, of the other sign, false
abbrev pub literals_of : NameList → Bool → List Sort → List Atom → Refusable (List Lit)
literals_of names positive (sort ∷ sorts) (atom ∷ atoms) = literals_as sort (words names) positive atom >>= λ lits. behind lits (literals_of names positive sorts atoms)
literals_of names positive _ _ = Ok []

-- the sorts of atoms in a clause with these variables, over these names
abbrev pub atom_sorts : Scope → List Atom → List Sort
atom_sorts scope = map (sort_of scope)

-- the atoms of the guard are to be false, and then those of the head true
abbrev pub sorted_literals : NameList → List Sort → List Atom → List Sort → List Atom → Refusable (List Lit)
sorted_literals names guard_sorts guard head_sorts head =
    literals_of names false guard_sorts guard >>= λ lits. behind lits (literals_of names true head_sorts head)

-- the numbers of an atom of sort idx are small on each side
pub record HasSmallSides (atom : Atom) : Type 0 where
  pub left : weight atom.left ≤ largest_side
  pub right : weight atom.right ≤ largest_side

abbrev pub IsLightFor : Sort → Atom → Type 0
IsLightFor sort atom = sort ≡ Idx → HasSmallSides atom

-- ---- lines
abbrev pub at_clause : ℕ → List Arg → List Lit → Line
at_clause clause shown lits = record { lits = lits; origin = At clause shown }

-- the line of these atoms, whose sorts are those of the clause's atoms over the names that were there before
abbrev pub instance_line : FlatClause → List Arg → NameList → List Atom → List Atom → Maker (Unit {0})
instance_line c shown names guard head g =
    computed c.item (sorted_literals g.names (atom_sorts (clause_scope names c.vars) c.guard) guard (atom_sorts (clause_scope names c.vars) c.head) head) g then λ lits.
    add_line (at_clause c.clause shown lits)

-- the line of a clause at the arguments of a tuple
abbrev pub instance : FlatClause → Tuple → Maker (Unit {0})
instance c t g =
    named_atoms c.item (replaced_atoms g.names c.vars t.args c.guard) g then λ guard. λ mid.
    named_atoms c.item (replaced_atoms g.names c.vars t.args c.head) mid then λ head.
    instance_line c t.shown g.names guard head
