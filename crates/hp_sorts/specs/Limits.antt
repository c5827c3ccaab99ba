-- The limits of a problem's text: its clauses, the variables of each clause, the arguments of each function.
use Rattle.std.specs.Prelude.{ℕ, Bool, false, if◌then◌else◌, Option, Some, None, length, nat_lt}
use Rattle.std.specs.List.{list_any}
use Rattle.hp_tree.specs.Limits.{most_clauses, most_variables, most_arguments}
use Rattle.hp_tree.specs.declared.limit.Limit.{Limit}
use Rattle.hp_tree.specs.declared.limit.Which.{Which}
use Rattle.hp_tree.specs.declared.limit.Which.TheVariants.{Clauses, Variables, Arguments}
use Rattle.hp_tree.specs.declared.problem.Clause.{Clause}
use Rattle.hp_tree.specs.declared.problem.Decl.{Decl}
use Rattle.hp_tree.specs.declared.problem.Decl.TheVariants.{Const, Fun}
use Rattle.hp_tree.specs.declared.problem.Problem.{Problem}

abbrev pub limit : Which → ℕ → Limit
limit which most = record { which = which; most = most; item = 0 }

abbrev pub has_many_variables : Clause → Bool
has_many_variables clause = nat_lt most_variables (length clause.vars)

abbrev pub has_many_arguments : Decl → Bool
has_many_arguments (Const name sort) = false
has_many_arguments (Fun name args value level) = nat_lt most_arguments (length args)

-- the first limit that is passed
abbrev pub passed : Problem → Option Limit
passed p =
    if nat_lt most_clauses (length p.clauses) then Some (limit Clauses most_clauses)
    else (if list_any has_many_variables p.clauses then Some (limit Variables most_variables)
    else (if list_any has_many_arguments p.decls then Some (limit Arguments most_arguments) else None))
