-- The value of a term, and the truth of atoms, where names and functions have values.
use Rattle.std.specs.Prelude.{ℕ, List, [], ◌∷◌, Bool, true, false, ◌&&◌, ◌||◌, not, pos}
use Rattle.hp_math.specs.Rational.{ℚ, whole, ◌+ℚ◌, ◌-ℚ◌, ◌*ℚ◌, neg_ℚ, le_ℚ, lt_ℚ, eq_ℚ}
use Rattle.hp_tree.specs.declared.term.Term.{Term, fold-Term}
use Rattle.hp_tree.specs.declared.term.Term.TheOpen.{Term-F}
use Rattle.hp_tree.specs.declared.problem.Atom.{Atom}
use Rattle.hp_tree.specs.declared.problem.Cmp.{Cmp}
use Rattle.hp_tree.specs.declared.problem.Cmp.TheVariants.{Le, Lt, Eq, Ne, Ge, Gt}

-- a name as its bytes
abbrev pub Word : Type 0
Word = List ℕ

-- a value for each word, and for each function a value at each list of values
abbrev pub Environment : Type 0
Environment = Word → ℚ

abbrev pub Functions : Type 0
Functions = Word → List ℚ → ℚ

-- one layer of a term, its parts having the values that are given
abbrev pub value_step : Environment → Functions → Term-F ℚ → ℚ
value_step names functions (Term-F.Number n) = n
value_step names functions Term-F.Null = whole (pos 0)
value_step names functions (Term-F.Name name) = names name
value_step names functions (Term-F.Apply func args) = functions func args
value_step names functions (Term-F.Add a b) = a +ℚ b
value_step names functions (Term-F.Sub a b) = a -ℚ b
value_step names functions (Term-F.Neg a) = neg_ℚ a
value_step names functions (Term-F.Scale n a) = n *ℚ a

abbrev pub value : Environment → Functions → Term → ℚ
value names functions = fold-Term ℚ (value_step names functions)

abbrev pub compares : Cmp → ℚ → ℚ → Bool
compares Le a b = le_ℚ a b
compares Lt a b = lt_ℚ a b
compares Eq a b = eq_ℚ a b
compares Ne a b = not (eq_ℚ a b)
compares Ge a b = le_ℚ b a
compares Gt a b = lt_ℚ b a

abbrev pub atom_is_true : Environment → Functions → Atom → Bool
atom_is_true names functions atom = compares atom.cmp (value names functions atom.left) (value names functions atom.right)

abbrev pub all_true : Environment → Functions → List Atom → Bool
all_true names functions [] = true
all_true names functions (atom ∷ atoms) = atom_is_true names functions atom && all_true names functions atoms

abbrev pub one_true : Environment → Functions → List Atom → Bool
one_true names functions [] = false
one_true names functions (atom ∷ atoms) = atom_is_true names functions atom || one_true names functions atoms
