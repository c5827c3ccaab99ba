-- Literals over fractions that share no name, directly or through others: labels tell them apart.
use Rattle.std.specs.Prelude.{◌≡◌, ℕ, ◌+◌, ◌<◌, List, [], ◌∷◌, Bool, true, false, Some, length, nat_eq, if◌then◌else◌, slice_get, slice_index_or, take}
use Rattle.std.specs.List.{All, Contains, filter}
use Rattle.hp_lit.specs.declared.literal.Part.{Part}
use Rattle.hp_lit.specs.declared.literal.NumLit.{NumLit}
use Rattle.hp_lit.specs.declared.valuation.NameValue.{NameValue}
use Rattle.hp_lit.specs.Truth.{Values, NumIsTrue}
use Rattle.hp_tree.specs.declared.problem.Sort.{Sort}
use Rattle.hp_tree.specs.declared.problem.Sort.TheVariants as sort
use Rattle.hp_descent.specs.declared.answer.RowStrain.{RowStrain}
use Rattle.hp_descent.specs.Answers.{IsStrained}
use Rattle.hp_path.specs.declared.components.Pace.{Pace}
use Rattle.hp_path.specs.declared.components.Pace.TheVariants as pace
use Rattle.hp_path.specs.Placed.{AreApart, HasValue}

-- the label of a name
abbrev pub label_at : List ℕ → ℕ → ℕ
label_at labels n = slice_index_or labels n 0

-- the label of the first name, and 0 where there is none
abbrev pub first_label : List ℕ → List Part → ℕ
first_label labels [] = 0
first_label labels (p ∷ ps) = label_at labels p.name.0

-- the names of these summands have one label
abbrev pub IsOneLabel : List ℕ → List Part → Type 0
IsOneLabel labels parts = All (λ p. label_at labels p.name.0 ≡ first_label labels parts) parts

-- the names are among those that have labels
abbrev pub AreNamesOf : List ℕ → List Part → Type 0
AreNamesOf labels parts = All (λ p. p.name.0 < length labels) parts

-- names that had one label still have one, and each label was one before
pub record IsCoarser (old new : List ℕ) : Type 0 where
  pub count : length new ≡ length old
  pub keeps : (m n : ℕ) → m < length old → n < length old → label_at old m ≡ label_at old n → label_at new m ≡ label_at new n
  pub labels : All (Contains old) new

-- one label for two
abbrev pub merged : ℕ → ℕ → ℕ → ℕ
merged kept gone label = if nat_eq label gone then kept else label

-- each literal has names of one label, and each label is below the count of labels
pub record AreLabels (labels : List ℕ) (nums : List NumLit) : Type 0 where
  pub names : All (λ l. AreNamesOf labels l.parts) nums
  pub one : All (λ l. IsOneLabel labels l.parts) nums
  pub below : All (λ label. label < length labels) labels

abbrev pub has_label : List ℕ → ℕ → NumLit → Bool
has_label labels label l = nat_eq (first_label labels l.parts) label

-- the places of the literals with this label
abbrev pub places_with : List ℕ → ℕ → List NumLit → List ℕ → List ℕ
places_with labels label [] places = []
places_with labels label (l ∷ ls) [] = []
places_with labels label (l ∷ ls) (p ∷ ps) = if has_label labels label l then p ∷ places_with labels label ls ps else places_with labels label ls ps

-- the label of the last literal, and 0 where there is none
abbrev pub label_of_last : List ℕ → List NumLit → ℕ
label_of_last labels [] = 0
label_of_last labels (l ∷ []) = first_label labels l.parts
label_of_last labels (l ∷ m ∷ ls) = label_of_last labels (m ∷ ls)

-- the places of the literals that have the label of the last one, so that no other literal shares a name with them
pub record IsComponentOfLast (nums : List NumLit) (places component : List ℕ) : Type 0 where
  pub labels : List ℕ
  pub are : AreLabels labels nums
  pub is : component ≡ places_with labels (label_of_last labels nums) nums places

-- a number of the descent over these literals is too wide
pub record AreStrained (nums : List NumLit) : Type 0 where
  pub row : RowStrain
  pub strained : IsStrained nums row

-- why literals have no answer: where the simplex gives up nothing is claimed, and the descent gives up where it is strained
abbrev pub AreGivenUp : Pace → List NumLit → Type 0
AreGivenUp pace.Quick nums = Unit {0}
AreGivenUp pace.Patient nums = AreStrained nums

-- the places of the literals of one label, so that no other literal shares a name with them, and these have no answer
pub record IsGivenUp (p : Pace) (nums : List NumLit) (places component : List ℕ) : Type 0 where
  pub labels : List ℕ
  pub label : ℕ
  pub are : AreLabels labels nums
  pub is : component ≡ places_with labels label nums places
  pub given_up : AreGivenUp p (filter (has_label labels label) nums)

-- whether the literals with this label have been decided
abbrev pub is_done : List Bool → ℕ → Bool
is_done done label = slice_index_or done label false

-- Before literal i: all earlier literals are of decided labels, and the values so far make the literals of decided labels
-- true. The values are those of names of such labels, of sort num, and no name has two.
pub record AreSolved (sorts : List Sort) (labels : List ℕ) (nums : List NumLit) (i : ℕ) (done : List Bool) (values : List NameValue) : Type 0 where
  pub count : length done ≡ length labels + 1
  pub earlier : All (λ l. is_done done (first_label labels l.parts) ≡ true) (take i nums)
  pub keeps : (v : Values) → All (HasValue v) values → All (λ l. is_done done (first_label labels l.parts) ≡ true → NumIsTrue v l) nums
  pub names : All (λ nv. is_done done (label_at labels nv.name.0) ≡ true) values
  pub sorted : All (λ nv. slice_get sorts nv.name.0 ≡ Some sort.Num) values
  pub apart : AreApart values

-- As long as no label is without an answer, all is solved. What has none is named.
pub record AreSettled (sorts : List Sort) (p : Pace) (labels : List ℕ) (nums : List NumLit) (places : List ℕ) (i : ℕ) (done : List Bool) (values : List NameValue) (unknown : List (List ℕ)) : Type 0 where
  pub count : length done ≡ length labels + 1
  pub solved : unknown ≡ [] → AreSolved sorts labels nums i done values
  pub given_up : All (IsGivenUp p nums places) unknown
