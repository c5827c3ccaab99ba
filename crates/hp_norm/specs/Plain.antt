-- Arguments that are variables alone or in which no variable occurs.
use Rattle.std.specs.Prelude.{List, Bool, false, ◌||◌, not, Option, Some, None}
use Rattle.hp_tree.specs.declared.term.Term.{Term, out-Term}
use Rattle.hp_tree.specs.declared.term.Term.TheOpen.{Term-F}
use Rattle.hp_tree.specs.declared.problem.Var.{Var}
use Rattle.hp_tree.specs.Value.{Word}
use Rattle.hp_norm.specs.Opening.{is_variable, mentions}

-- the name that a term is
abbrev pub name_in : Term-F Term → Option Word
name_in (Term-F.Name word) = Some word
name_in _ = None

abbrev pub is_variable_in : List Var → Option Word → Bool
is_variable_in vars None = false
is_variable_in vars (Some word) = is_variable vars word

-- a variable alone
abbrev pub is_lone_variable : List Var → Term → Bool
is_lone_variable vars term = is_variable_in vars (name_in (out-Term term))

-- a variable, or a term without variables
abbrev pub is_plain_argument : List Var → Term → Bool
is_plain_argument vars term = is_lone_variable vars term || not (mentions vars term)
