-- What the rules on sorts say of values, where two scopes sort alike, and what is known of weights and of words.
use Rattle.std.specs.Prelude.{◌≡◌, ℕ, ◌≤◌, ◌<◌, ◌^◌, List, [], ◌∷◌, length, IsTrue, Some, true}
use Rattle.std.specs.List.{All, AllZip}
use Rattle.hp_math.specs.Rational.{ℚ}
use Rattle.hp_tree.specs.declared.term.Term.{Term, roll-Term}
use Rattle.hp_tree.specs.declared.term.Term.TheOpen.{Term-F}
use Rattle.hp_tree.specs.declared.problem.Sort.{Sort}
use Rattle.hp_tree.specs.declared.problem.Sort.TheVariants.{Ptr}
use Rattle.hp_tree.specs.declared.problem.Atom.{Atom}
use Rattle.hp_tree.specs.Sorted.{is_of_sort}
use Rattle.hp_tree.specs.Value.{Word, Environment, Functions, value}
use Rattle.hp_terms.specs.Scope.{Profile, Scope, Widens}
use Rattle.hp_terms.specs.Sorting.{atom_is_sorted, first_sort, forms_of, has_form, sort_of}
use Rattle.hp_terms.specs.Occurring.{AgreeOn, AgreeOnAtom}
use Rattle.hp_terms.specs.Weight.{weight}
use Rattle.hp_terms.specs.Words.{is_made_word, made_word}

-- ---- values
-- a value for each sort, and of it, in a universe of so many pointers
abbrev pub AreOfSort : ℕ → List Sort → List ℚ → Type 0
AreOfSort size [] [] = Unit {0}
AreOfSort size (s ∷ ss) (x ∷ xs) = IsTrue (is_of_sort size s x) × AreOfSort size ss xs
AreOfSort size _ _ = ⊥

-- names, functions and pointer numbers have values of the sorts that the scope gives them
pub record KeepsSorts (size : ℕ) (scope : Scope) (env : Environment) (functions : Functions) : Type 0 where
  pub names : (word : Word) (sort : Sort) → scope.name word ≡ Some sort → IsTrue (is_of_sort size sort (env word))
  pub functions_keep : (word : Word) (profile : Profile) (args : List ℚ) → scope.function word ≡ Some profile → AreOfSort size profile.args args
      → IsTrue (is_of_sort size profile.result (functions word args))
  pub pointers : (number : ℚ) → scope.pointer number ≡ true → IsTrue (is_of_sort size Ptr number)

-- then each term of a sort has a value of that sort
abbrev pub SortedTermsHaveSortedValues : Type 0
SortedTermsHaveSortedValues = (size : ℕ) (scope : Scope) (env : Environment) (functions : Functions) (term : Term) (sort : Sort)
    → 1 ≤ size → KeepsSorts size scope env functions → has_form (forms_of scope term) sort ≡ true → IsTrue (is_of_sort size sort (value env functions term))

-- ---- scopes that say the same
-- a term is of the same sorts in two scopes, and has the same first sort
pub record IsFormedAlike (one other : Scope) (term : Term) : Type 0 where
  pub forms : forms_of one term ≡ forms_of other term
  pub first : first_sort one term ≡ first_sort other term

-- an atom has the same sort in two scopes, and is sorted in both or in none
pub record IsSortedAlike (one other : Scope) (atom : Atom) : Type 0 where
  pub sort : sort_of one atom ≡ sort_of other atom
  pub sorted : atom_is_sorted one atom ≡ atom_is_sorted other atom

abbrev pub AgreeingScopesFormAlike : Type 0
AgreeingScopesFormAlike = (one other : Scope) (term : Term) → AgreeOn one other term → IsFormedAlike one other term

abbrev pub AgreeingScopesSortAlike : Type 0
AgreeingScopesSortAlike = (one other : Scope) (atom : Atom) → AgreeOnAtom one other atom → IsSortedAlike one other atom

-- ---- scopes that say more
-- a term of a sort stays one
abbrev pub WiderScopesKeepForms : Type 0
WiderScopesKeepForms = (less more : Scope) (term : Term) (sort : Sort) → Widens less more → has_form (forms_of less term) sort ≡ true → has_form (forms_of more term) sort ≡ true

-- a sorted atom stays sorted, and keeps its sort
abbrev pub WiderScopesKeepSorts : Type 0
WiderScopesKeepSorts = (less more : Scope) (atom : Atom) → Widens less more → atom_is_sorted less atom ≡ true
    → (sort_of less atom ≡ sort_of more atom) × (atom_is_sorted more atom ≡ true)

-- ---- parts
-- the terms that a term is made of
abbrev pub parts_of : Term-F Term → List Term
parts_of (Term-F.Number value) = []
parts_of Term-F.Null = []
parts_of (Term-F.Name name) = []
parts_of (Term-F.Apply func args) = args
parts_of (Term-F.Add left right) = left ∷ right ∷ []
parts_of (Term-F.Sub left right) = left ∷ right ∷ []
parts_of (Term-F.Neg inner) = inner ∷ []
parts_of (Term-F.Scale value inner) = inner ∷ []

-- a term is one of some sort
pub record HasSort (scope : Scope) (term : Term) : Type 0 where
  pub sort : Sort
  pub is : has_form (forms_of scope term) sort ≡ true

-- then so is each of its parts
abbrev pub PartsOfSortedTermsAreSorted : Type 0
PartsOfSortedTermsAreSorted = (scope : Scope) (layer : Term-F Term) → HasSort scope (roll-Term layer) → All (HasSort scope) (parts_of layer)

-- a function is applied to as many terms as its profile says, each of the sort of its place, and gives a term of the sort
pub record FollowsProfile (scope : Scope) (func : Word) (args : List Term) (sort : Sort) : Type 0 where
  pub profile : Profile
  pub known : scope.function func ≡ Some profile
  pub count : length args ≡ length profile.args
  pub each : AllZip (λ arg place. has_form (forms_of scope arg) place ≡ true) args profile.args
  pub result : profile.result ≡ sort

abbrev pub ApplicationsFollowProfiles : Type 0
ApplicationsFollowProfiles = (scope : Scope) (func : Word) (args : List Term) (sort : Sort) → has_form (forms_of scope (roll-Term (Term-F.Apply func args))) sort ≡ true
    → FollowsProfile scope func args sort

-- no part weighs more than the whole
abbrev pub PartsWeighNoMore : Type 0
PartsWeighNoMore = (layer : Term-F Term) → All (λ part. weight part ≤ weight (roll-Term layer)) (parts_of layer)

-- ---- words
-- definitions with different numbers have different words
abbrev pub MadeWordsDiffer : Type 0
MadeWordsDiffer = (m n : ℕ) → m < 2 ^ 64 → n < 2 ^ 64 → made_word m ≡ made_word n → m ≡ n

-- and none of them is plain
abbrev pub MadeWordsAreNotPlain : Type 0
MadeWordsAreNotPlain = (n : ℕ) → n < 2 ^ 64 → is_made_word (made_word n) ≡ true
