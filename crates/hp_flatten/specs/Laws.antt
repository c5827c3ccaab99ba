-- What a flattened clause says.
use Rattle.std.specs.Prelude.{◌≡◌, ◌↔◌, ℕ, ◌≤◌, List, [], ◌∷◌, length, true, false, Some}
use Rattle.std.specs.List.{All}
use Rattle.hp_names.specs.Names.{is_among}
use Rattle.hp_tree.specs.Limits.{most_arguments}
use Rattle.hp_tree.specs.declared.problem.Sort.{Sort}
use Rattle.hp_tree.specs.declared.problem.Sort.TheVariants.{Num}
use Rattle.hp_tree.specs.Universal.{HoldsAll}
use Rattle.hp_tree.specs.Value.{Environment, Functions}
use Rattle.hp_defs.specs.declared.names.Signature.{Signature}
use Rattle.hp_defs.specs.declared.names.Constant.{Constant}
use Rattle.hp_defs.specs.Names.{NameList}
use Rattle.hp_local.specs.Rows.{argument_words}
use Rattle.hp_norm.specs.declared.flat.FlatClause.{FlatClause}
use Rattle.hp_norm.specs.Flat.{IsFlat, universal_of}
use Rattle.hp_norm.specs.Scopes.{signature_named}
use Rattle.hp_flatten.specs.declared.application.Application.{Application}
use Rattle.hp_flatten.specs.Applications.{clause_applications}
use Rattle.hp_flatten.specs.Flattening.{are_arguments, at_words, flattened}

-- no constant has the word of an argument
abbrev pub HasPlainConstant : Constant → Type 0
HasPlainConstant c = is_among c.name argument_words ≡ false

abbrev pub HasPlainConstants : NameList → Type 0
HasPlainConstants names = All HasPlainConstant names.constants

abbrev pub AreNum : List Sort → Type 0
AreNum sorts = All (λ s. s ≡ Num) sorts

-- a flat clause with one application, of a function of num arguments, whose arguments are variables or have none, and whose variables
-- are those that are arguments
pub record IsFlattenableClause (names : NameList) (c : FlatClause) (a : Application) : Type 0 where
  pub flat : IsFlat names c
  pub constants : HasPlainConstants names
  pub one : clause_applications c ≡ a ∷ []
  pub signature : Signature
  pub known : signature_named names a.func ≡ Some signature
  pub nums : AreNum signature.args
  pub result : signature.result ≡ Num
  pub few : length a.args ≤ most_arguments
  pub arguments : are_arguments c.vars a.args ≡ true

-- it holds exactly where its source does
abbrev pub FlattenedHolds : Type 0
FlattenedHolds = (names : NameList) (c : FlatClause) (a : Application) (size : ℕ) (env : Environment) (functions : Functions) → IsFlattenableClause names c a
    → HoldsAll size env functions (universal_of c) ↔ HoldsAll size env functions (universal_of (flattened a c))

-- it is flat over the same names
abbrev pub FlattenedIsFlat : Type 0
FlattenedIsFlat = (names : NameList) (c : FlatClause) (a : Application) → IsFlattenableClause names c a → IsFlat names (flattened a c)

-- its one application is that of the function at the words of its arguments
abbrev pub FlattenedHasOne : Type 0
FlattenedHasOne = (c : FlatClause) (a : Application) → clause_applications c ≡ a ∷ [] → clause_applications (flattened a c) ≡ at_words a.func (length a.args) ∷ []
