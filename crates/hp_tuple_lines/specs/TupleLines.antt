-- Clauses at all tuples over a list of arguments.
use Rattle.std.specs.Prelude.{◌≤◌, ℕ, List, length, map, get_or}
use Rattle.std.specs.List.{All}
use Rattle.hp_tree.specs.Limits.{most_variables}
use Rattle.hp_lit.specs.declared.line.Arg.{Arg}
use Rattle.hp_lit.specs.declared.line.Arg.TheVariants.{Null}
use Rattle.hp_defs.specs.Names.{NameList}
use Rattle.hp_norm.specs.declared.flat.FlatClause.{FlatClause}
use Rattle.hp_norm.specs.Flat.{IsFlat}
use Rattle.hp_instance.specs.declared.tuple.Tuple.{Tuple}
use Rattle.hp_instance.specs.Laws.{TupleFits}
use Rattle.hp_class.specs.Group.{Planned}
use Rattle.hp_tuples.specs.Tuples.{all_tuples}

-- arguments for the variables, which are shown
abbrev pub shown_tuple : List Arg → Tuple
shown_tuple args = record { args = args; shown = args }

-- those of all tuples over a list, for so many variables
abbrev pub tuples_over : List Arg → ℕ → List Tuple
tuples_over xs count = map shown_tuple (all_tuples xs count)

abbrev pub planned_over : List Arg → FlatClause → Planned
planned_over xs c = record { clause = c; tuples = tuples_over xs (length c.vars) }

-- each clause at all tuples over the list
abbrev pub tuples_plan : List Arg → List FlatClause → List Planned
tuples_plan xs clauses = map (planned_over xs) clauses

-- a flat clause of few variables, and tuples over the list that fit it
pub record FitsOver (names : NameList) (xs : List Arg) (c : FlatClause) : Type 0 where
  pub flat : IsFlat names c
  pub few : length c.vars ≤ most_variables
  pub tuples : All (λ t. TupleFits names c t.args) (tuples_over xs (length c.vars))

-- the arguments at places, counted from 0
abbrev pub args_at : List Arg → List ℕ → List Arg
args_at xs places = map (λ k. get_or xs k Null) places
