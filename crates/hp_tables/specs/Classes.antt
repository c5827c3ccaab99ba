-- Free and monotone functions as groups of one function: the names that a group is made for, and its tables.
use Rattle.std.specs.Prelude.{◌≡◌, ◌≤◌, ℕ, List, [], ◌∷◌, length, Some, slice_get}
use Rattle.hp_tree.specs.Limits.{most_arguments}
use Rattle.hp_tree.specs.declared.problem.Sort.TheVariants.{Num}
use Rattle.hp_tree.specs.Value.{Word}
use Rattle.hp_lit.specs.Truth.{Values}
use Rattle.hp_defs.specs.declared.names.Signature.{Signature}
use Rattle.hp_defs.specs.Names.{NameList}
use Rattle.hp_model.specs.declared.structure.Table.{Table}
use Rattle.hp_local.specs.Free.{free_table}
use Rattle.hp_local.specs.Ordered.{fact_points, in_order, step_table}
use Rattle.hp_norm.specs.declared.flat.FlatClause.{FlatClause}
use Rattle.hp_norm.specs.Flat.{IsFlat}
use Rattle.hp_class.specs.Frame.{facts_of}
use Rattle.hp_shapes.specs.declared.shape.Form.{Form}
use Rattle.hp_shapes.specs.Shapes.{form_of}

-- ---- a free function
-- the function at a place, with its word and number of arguments
pub record IsFree (names : NameList) (func : ℕ) (word : Word) (count : ℕ) (funcs : List ℕ) : Type 0 where
  pub signature : Signature
  pub known : slice_get names.signatures func ≡ Some signature
  pub name : signature.name ≡ word
  pub arguments : length signature.args ≡ count
  pub few : count ≤ most_arguments
  pub own : funcs ≡ func ∷ []

abbrev pub free_tables : ℕ → Word → ℕ → NameList → Values → List Table
free_tables func word count names v = free_table word count (facts_of func word names v) ∷ []

-- ---- a monotone function
-- the function at a place, of num to num, with its word, its clause and the form of that
pub record IsMonotone (names : NameList) (func : ℕ) (word : Word) (clause : FlatClause) (form : Form) (funcs : List ℕ) : Type 0 where
  pub signature : Signature
  pub known : slice_get names.signatures func ≡ Some signature
  pub name : signature.name ≡ word
  pub arguments : signature.args ≡ Num ∷ []
  pub result : signature.result ≡ Num
  pub shape : form_of word clause.vars clause.guard clause.head ≡ Some form
  pub flat : IsFlat names clause
  pub own : funcs ≡ func ∷ []

abbrev pub step_tables : ℕ → Word → NameList → Values → List Table
step_tables func word names v = step_table word (in_order (fact_points (facts_of func word names v))) ∷ []
