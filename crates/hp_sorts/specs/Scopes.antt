-- What words mean in the clauses of a problem.
use Rattle.std.specs.Prelude.{List, false, option_map}
use Rattle.hp_tree.specs.declared.problem.Var.{Var}
use Rattle.hp_tree.specs.declared.problem.Problem.{Problem}
use Rattle.hp_terms.specs.Scope.{Profile, Scope}
use Rattle.hp_sorts.specs.declared.tables.SortTable.{SortTable}
use Rattle.hp_sorts.specs.declared.tables.Signature.{Signature}
use Rattle.hp_sorts.specs.declared.tables.Tables.{Tables}
use Rattle.hp_sorts.specs.Symbols.{name_sort, signature_of, symbols, variables}

-- what a function with this signature takes and gives
abbrev pub profile_of : Signature → Profile
profile_of signature = record { args = signature.args; result = signature.result }

-- a variable and a constant have their sorts, a function its profile, and no number is a pointer
abbrev pub scope_of : Tables → SortTable → Scope
scope_of s vars = record {
  name = λ word. name_sort s vars word;
  function = λ word. option_map profile_of (signature_of s word);
  pointer = λ number. false;
}

-- in a clause with these variables; without variables it is what the declarations alone say
abbrev pub problem_scope : Problem → List Var → Scope
problem_scope p vars = scope_of (symbols p.decls) (variables vars)
