-- The class of a function by cases, as it is made.
use Rattle.std.specs.Prelude.{ℕ, List, [], ◌∷◌, length}
use Rattle.hp_defs.specs.declared.names.Signature.{Signature}
use Rattle.hp_norm.specs.declared.flat.FlatClause.{FlatClause}
use Rattle.hp_cases.specs.declared.case.Case.{Case}
use Rattle.hp_by_cases.specs.declared.cases.Cases.{Cases}

abbrev pub cases_at : ℕ → Signature → List FlatClause → List Case → List ℕ → Cases
cases_at func s clauses cases applied = record { func = func; word = s.name; args = length s.args; clauses = clauses; cases = cases; applied = applied; own = func ∷ [] }
