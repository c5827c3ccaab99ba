-- Pointer terms over words: a name or null, and the literal of an atom that compares two of them.
use Rattle.std.specs.Prelude.{Bool, true, false, List, [], ◌∷◌, Option, None}
use Rattle.hp_tree.specs.declared.term.Term.{Term, fold-Term}
use Rattle.hp_tree.specs.declared.term.Term.TheOpen.{Term-F}
use Rattle.hp_tree.specs.declared.problem.Cmp.{Cmp}
use Rattle.hp_tree.specs.declared.problem.Cmp.TheVariants.{Le, Lt, Eq, Ne, Ge, Gt}
use Rattle.hp_tree.specs.declared.problem.Atom.{Atom}
use Rattle.hp_tree.specs.Value.{Word}
use Rattle.hp_lit.specs.declared.literal.Name.{Name}
use Rattle.hp_lit.specs.declared.literal.Lit.{Lit}
use Rattle.hp_lit.specs.declared.literal.Lit.TheVariants.{Ptr}
use Rattle.hp_lit.specs.Words.{number}
use Rattle.hp_tree.specs.Sides.{signed}

-- a word that is none of these, and what is no pointer term, is null
abbrev pub pointer_step : List Word → Term-F (Option Name) → Option Name
pointer_step words (Term-F.Number q) = None
pointer_step words Term-F.Null = None
pointer_step words (Term-F.Name name) = number words name
pointer_step words (Term-F.Apply func args) = None
pointer_step words (Term-F.Add a b) = None
pointer_step words (Term-F.Sub a b) = None
pointer_step words (Term-F.Neg a) = None
pointer_step words (Term-F.Scale q a) = None

-- the name of a pointer term over these words, or null
abbrev pub pointer_of : List Word → Term → Option Name
pointer_of words = fold-Term (Option Name) (pointer_step words)

-- whether a relation of pointers is that of equal ones; those that order numbers are none of pointers
abbrev pub asks_same : Cmp → Bool
asks_same Le = false
asks_same Lt = false
asks_same Eq = true
asks_same Ne = false
asks_same Ge = false
asks_same Gt = false

-- the literal over these words of an atom that is to be true, or, of the other sign, false
abbrev pub ptr_literals : List Word → Bool → Atom → List Lit
ptr_literals words positive atom = Ptr (record {
  same = asks_same (signed positive atom.cmp);
  left = pointer_of words atom.left;
  right = pointer_of words atom.right;
}) ∷ []
