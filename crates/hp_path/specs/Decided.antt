-- What a decision says of the literals of a path.
use Rattle.std.specs.Prelude.{◌≡◌, ℕ, List, Some, slice_get, Result, Ok, Err}
use Rattle.std.specs.List.{All}
use Rattle.hp_tree.specs.declared.problem.Sort.{Sort}
use Rattle.hp_tree.specs.declared.problem.Sort.TheVariants as sort
use Rattle.hp_lit.specs.declared.literal.Lit.{Lit}
use Rattle.hp_lit.specs.declared.valuation.NameValue.{NameValue}
use Rattle.hp_lit.specs.Sorts.{AreOfSorts}
use Rattle.hp_lit.specs.Truth.{Values, name_value, IsTrueAt}
use Rattle.hp_leaf.specs.Leaf.{IsValid}
use Rattle.hp_diff.specs.Rows.{IsSmallWhole}
use Rattle.hp_descent.specs.declared.answer.DescentErr.{DescentErr}
use Rattle.hp_descent.specs.Answers.{IsChainSolution, IsCause}
use Rattle.hp_descent.specs.Values.{value_in}
use Rattle.hp_path.specs.declared.deciding.Decision.{Decision}
use Rattle.hp_path.specs.declared.deciding.Decision.TheVariants as decision
use Rattle.hp_path.specs.declared.quick.Quick.{Quick}
use Rattle.hp_path.specs.declared.quick.Quick.TheVariants as quick
use Rattle.hp_path.specs.declared.components.Pace.{Pace}
use Rattle.hp_path.specs.declared.components.Pace.TheVariants as pace
use Rattle.hp_path.specs.Kinds.{num_lits}
use Rattle.hp_path.specs.Parted.{num_places}
use Rattle.hp_path.specs.Components.{IsGivenUp}

-- each name of sort idx has a whole number of a magnitude of at most 10^37
abbrev pub AreSmallIdx : List Sort → Values → Type 0
AreSmallIdx sorts v = (n : ℕ) → slice_get sorts n ≡ Some sort.Idx → IsSmallWhole (name_value v n)

-- values of the names' sorts that make all literals true
pub record AreValuesFor (sorts : List Sort) (lits : List Lit) (v : Values) : Type 0 where
  pub sorted : AreOfSorts sorts v
  pub small : AreSmallIdx sorts v
  pub holds : All (IsTrueAt v) lits

-- the names of sort num have the values that the point of this chain of the rows of the literals over fractions gives, and 0
-- where they occur in none of these
pub record AreOfChain (sorts : List Sort) (lits : List Lit) (chain : List ℕ) (v : Values) : Type 0 where
  pub values : List NameValue
  pub solution : IsChainSolution (num_lits lits) chain values
  pub agree : (n : ℕ) → slice_get sorts n ≡ Some sort.Num → name_value v n ≡ value_in values n

abbrev pub Decides : List Sort → List Lit → Result Decision DescentErr → Type 0
Decides sorts lits (Ok (decision.Values v chain)) = AreValuesFor sorts lits v.values × AreOfChain sorts lits chain v.values
Decides sorts lits (Ok (decision.Leaf proof)) = IsValid lits proof
Decides sorts lits (Err e) = IsCause (num_lits lits) e

-- of a decision by components: those without an answer are named by the places of their literals
abbrev pub DecidesAt : List Sort → Pace → List Lit → Quick → Type 0
DecidesAt sorts p lits (quick.Values v) = AreValuesFor sorts lits v.values
DecidesAt sorts p lits (quick.Leaf proof) = IsValid lits proof
DecidesAt sorts p lits (quick.Unknown components) = All (IsGivenUp p (num_lits lits) (num_places 1 lits)) components

-- where the simplex gives up, there is no answer
abbrev pub DecidesQuickly : List Sort → List Lit → Quick → Type 0
DecidesQuickly sorts lits q = DecidesAt sorts pace.Quick lits q

-- where the simplex gives up the descent decides, and there is no answer where it is strained
abbrev pub DecidesPatiently : List Sort → List Lit → Quick → Type 0
DecidesPatiently sorts lits q = DecidesAt sorts pace.Patient lits q
