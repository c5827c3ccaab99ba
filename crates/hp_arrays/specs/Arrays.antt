-- A group of arrays: the names that it is made for, its definitions, its instances, and its tables.
use Rattle.std.specs.Prelude.{◌≡◌, ◌≤◌, ℕ, List, [], ◌∷◌, ◌++◌, map, length, get_or, Some, slice_get, true}
use Rattle.std.specs.List.{All, AllZip, Contains}
use Rattle.hp_tree.specs.Limits.{most_variables}
use Rattle.hp_tree.specs.declared.problem.Sort.TheVariants.{Num, Idx}
use Rattle.hp_tree.specs.Value.{Word}
use Rattle.hp_lit.specs.Truth.{Values}
use Rattle.hp_lit.specs.declared.line.Arg.{Arg}
use Rattle.hp_lit.specs.declared.line.Arg.TheVariants.{Null}
use Rattle.hp_defs.specs.declared.names.Signature.{Signature}
use Rattle.hp_defs.specs.Names.{NameList}
use Rattle.hp_model.specs.declared.structure.Table.{Table}
use Rattle.hp_base.specs.Making.{Maker, ◌then◌, in_turn, keep}
use Rattle.hp_base.specs.Defining.{definition_of}
use Rattle.hp_norm.specs.declared.flat.FlatClause.{FlatClause}
use Rattle.hp_norm.specs.Flat.{IsFlat}
use Rattle.hp_instance.specs.declared.tuple.Tuple.{Tuple}
use Rattle.hp_instance.specs.Laws.{TupleFits}
use Rattle.hp_class.specs.Frame.{is_function}
use Rattle.hp_class.specs.Group.{Planned}
use Rattle.hp_tables.specs.Classes.{step_tables}
use Rattle.hp_flatten.specs.declared.application.Application.{Application}
use Rattle.hp_flatten.specs.Applications.{clause_applications}
use Rattle.hp_index_set.specs.IndexSet.{index_set}
use Rattle.hp_index_set.specs.Rules.{has_index_guards, reads_at_variables}
use Rattle.hp_tuple_lines.specs.TupleLines.{tuples_plan}

-- ---- the group
-- the function at a place, of idx to num, with its word
pub record IsArray (names : NameList) (func : ℕ) (word : Word) : Type 0 where
  pub signature : Signature
  pub known : slice_get names.signatures func ≡ Some signature
  pub name : signature.name ≡ word
  pub arguments : signature.args ≡ Idx ∷ []
  pub result : signature.result ≡ Num

-- a flat clause of few variables that keeps the rules and applies functions of the group alone
pub record IsArrayClause (names : NameList) (own : List ℕ) (c : FlatClause) : Type 0 where
  pub flat : IsFlat names c
  pub few : length c.vars ≤ most_variables
  pub guards : has_index_guards names c ≡ true
  pub reads : reads_at_variables names c ≡ true
  pub owned : All (λ a. is_function names own a.func ≡ true) (clause_applications c)

-- a clause of the group applies the function
pub record IsRead (clauses : List FlatClause) (word : Word) : Type 0 where
  pub clause : FlatClause
  pub among : Contains clauses clause
  pub application : Application
  pub applied : Contains (clause_applications clause) application
  pub function : application.func ≡ word

-- functions of a group with their words, and its clauses
pub record IsArrayGroup (names : NameList) (own : List ℕ) (words : List Word) (clauses : List FlatClause) : Type 0 where
  pub functions : AllZip (IsArray names) own words
  pub all : All (IsArrayClause names own) clauses
  pub read : All (IsRead clauses) words

-- ---- definitions
-- an array at an index
abbrev pub element : ℕ → Arg → Maker (Unit {0})
element func x g = definition_of func (x ∷ []) g then λ name. keep tt

abbrev pub elements : List Arg → ℕ → Maker (Unit {0})
elements indexes func = in_turn (element func) indexes

-- each array at each index
abbrev pub array_elements : List ℕ → List FlatClause → Maker (Unit {0})
array_elements own clauses g = in_turn (elements (index_set own clauses g.names)) own g

-- ---- instances
-- each clause at all tuples over the index set
abbrev pub arrays_plan : List ℕ → List FlatClause → NameList → List Planned
arrays_plan own clauses names = tuples_plan (index_set own clauses names) clauses

-- ---- tables
-- from each index on the value there, up to the next one
abbrev pub arrays_tables : List ℕ → List Word → NameList → Values → List Table
arrays_tables (func ∷ own) (word ∷ words) names v = step_tables func word names v ++ arrays_tables own words names v
arrays_tables _ _ names v = []
