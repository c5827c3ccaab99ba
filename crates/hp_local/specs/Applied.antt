-- The functions that terms, atoms, clauses and tables apply, and that values depend on these alone.
use Rattle.std.specs.Prelude.{◌≡◌, Bool, true, ◌&&◌, IsTrue, List}
use Rattle.std.specs.List.{list_all}
use Rattle.hp_math.specs.Rational.{ℚ}
use Rattle.hp_tree.specs.declared.term.Term.{Term, fold-Term}
use Rattle.hp_tree.specs.declared.term.Term.TheOpen.{Term-F}
use Rattle.hp_tree.specs.declared.problem.Atom.{Atom}
use Rattle.hp_tree.specs.Universal.{Universal}
use Rattle.hp_tree.specs.Value.{Word, Environment, Functions, value}
use Rattle.hp_model.specs.declared.structure.Row.{Row}
use Rattle.hp_model.specs.declared.structure.Table.{Table}

-- each function that the term applies passes the test
abbrev pub applies_step : (Word → Bool) → Term-F Bool → Bool
applies_step test (Term-F.Number n) = true
applies_step test Term-F.Null = true
applies_step test (Term-F.Name name) = true
applies_step test (Term-F.Apply func args) = test func && list_all (λ b. b) args
applies_step test (Term-F.Add a b) = a && b
applies_step test (Term-F.Sub a b) = a && b
applies_step test (Term-F.Neg a) = a
applies_step test (Term-F.Scale n a) = a

abbrev pub applies_only : (Word → Bool) → Term → Bool
applies_only test = fold-Term Bool (applies_step test)

-- likewise of the atom, the clause, the row, the table
abbrev pub atom_applies : (Word → Bool) → Atom → Bool
atom_applies test atom = applies_only test atom.left && applies_only test atom.right

abbrev pub clause_applies : (Word → Bool) → Universal → Bool
clause_applies test u = list_all (atom_applies test) u.guard && list_all (atom_applies test) u.head

abbrev pub row_applies : (Word → Bool) → Row → Bool
row_applies test row = list_all (atom_applies test) row.guard && applies_only test row.value

abbrev pub table_applies : (Word → Bool) → Table → Bool
table_applies test table = list_all (row_applies test) table.rows && applies_only test table.otherwise

-- functions that agree where the test is passed give a term the same value that applies no others
abbrev pub ValuesAreLocal : Type 0
ValuesAreLocal = (names : Environment) (f g : Functions) (test : Word → Bool) → ((word : Word) → IsTrue (test word) → (args : List ℚ) → f word args ≡ g word args)
    → (term : Term) → IsTrue (applies_only test term) → value names f term ≡ value names g term
