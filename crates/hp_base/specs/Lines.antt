-- Names of a ground set as a scope, the literals that compare two arguments, and lines that are added.
use Rattle.std.specs.Prelude.{List, [], ◌∷◌, ◌++◌, length, Bool, nat_lt, if◌then◌else◌, Ok, Err}
use Rattle.hp_tree.specs.Limits.{most_lines}
use Rattle.hp_tree.specs.declared.problem.Sort.{Sort}
use Rattle.hp_tree.specs.declared.problem.Sort.TheVariants.{Num, Idx, Ptr}
use Rattle.hp_tree.specs.declared.problem.Atom.{Atom}
use Rattle.hp_tree.specs.Value.{Word}
use Rattle.hp_terms.specs.Scope.{Scope}
use Rattle.hp_lit.specs.declared.literal.Lit.{Lit}
use Rattle.hp_lit.specs.declared.line.Line.{Line}
use Rattle.hp_lit.specs.Limited.{many_lines}
use Rattle.hp_lit.specs.Words.{scope_over}
use Rattle.hp_linear.specs.Steps.{Refusable}
use Rattle.hp_linear.specs.Literals.{literals as num_literals}
use Rattle.hp_index.specs.Literals.{literals as idx_literals}
use Rattle.hp_index.specs.Pointers.{ptr_literals}
use Rattle.hp_defs.specs.declared.names.Ground.{Ground}
use Rattle.hp_defs.specs.Names.{NameList, sorts, words}
use Rattle.hp_base.specs.Making.{Maker}

-- the names with their sorts, and no function
abbrev pub flat_scope : NameList → Scope
flat_scope names = scope_over (words names) (sorts names)

-- the literals over these words of an atom of a sort that is to be true, or, of the other sign, false
abbrev pub literals_as : Sort → List Word → Bool → Atom → Refusable (List Lit)
literals_as Num words positive atom = num_literals words positive atom
literals_as Idx words positive atom = Ok (idx_literals words positive atom)
literals_as Ptr words positive atom = Ok (ptr_literals words positive atom)

abbrev pub with_line : Ground → Line → Ground
with_line g line = record { names = g.names; lines = g.lines ++ line ∷ [] }

-- a line behind those that are there, where there may be one more
abbrev pub add_line : Line → Maker (Unit {0})
add_line line g = if nat_lt (length g.lines) most_lines then Ok (tt, with_line g line) else Err many_lines
