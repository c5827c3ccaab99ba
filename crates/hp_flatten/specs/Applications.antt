-- The applications in terms and clauses, with those in arguments.
use Rattle.std.specs.Prelude.{List, [], ◌∷◌, ◌++◌}
use Rattle.hp_tree.specs.declared.term.Term.{Term, out-Term}
use Rattle.hp_tree.specs.declared.term.Term.TheOpen.{Term-F}
use Rattle.hp_tree.specs.declared.problem.Atom.{Atom}
use Rattle.hp_terms.specs.Occurring.{joined}
use Rattle.hp_norm.specs.Trees.{by_term}
use Rattle.hp_norm.specs.declared.flat.FlatClause.{FlatClause}
use Rattle.hp_flatten.specs.declared.application.Application.{Application}

-- a term that is an application
abbrev pub application_of : Term-F Term → List Application
application_of (Term-F.Apply func args) = record { func = func; args = args } ∷ []
application_of _ = []

abbrev pub applications_step : Term → Term-F (List Application) → List Application
applications_step term (Term-F.Number q) = []
applications_step term Term-F.Null = []
applications_step term (Term-F.Name word) = []
applications_step term (Term-F.Apply func args) = application_of (out-Term term) ++ joined args
applications_step term (Term-F.Add a b) = a ++ b
applications_step term (Term-F.Sub a b) = a ++ b
applications_step term (Term-F.Neg a) = a
applications_step term (Term-F.Scale q a) = a

-- each application as often as it stands in the term, one before those in its arguments, in the order of the text
abbrev pub applications : Term → List Application
applications = by_term applications_step

abbrev pub atoms_applications : List Atom → List Application
atoms_applications [] = []
atoms_applications (atom ∷ atoms) = (applications atom.left ++ applications atom.right) ++ atoms_applications atoms

-- those of the guard, and then those of the head
abbrev pub clause_applications : FlatClause → List Application
clause_applications c = atoms_applications c.guard ++ atoms_applications c.head
