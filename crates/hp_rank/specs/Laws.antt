-- What ranks say of a universe, and what values by rank keep.
use Rattle.std.specs.Prelude.{◌≡◌, ◌↔◌, ℕ, ◌++◌, ◌<◌, ◌≤◌, List, pos, true, false, Some, slice_get}
use Rattle.std.specs.List.{All}
use Rattle.hp_math.specs.Rational.{whole}
use Rattle.hp_tree.specs.declared.problem.Sort.{Sort}
use Rattle.hp_tree.specs.declared.problem.Sort.TheVariants.{Ptr}
use Rattle.hp_lit.specs.declared.literal.Lit.{Lit}
use Rattle.hp_lit.specs.Truth.{Values, name_value, IsTrueAt, LineIsTrue}
use Rattle.hp_lit.specs.Sorts.{AreOfSorts, HaveSorts}
use Rattle.hp_lit.specs.Fit.{IsFit}
use Rattle.hp_rank.specs.Ranks.{is_among, pointer, pointer_values, universe, universe_size, others, rank, ranked}

-- ---- pointers
-- a pointer of the universe, or of another name
abbrev pub IsRanked : ℕ → List Sort → Values → ℕ → Type 0
IsRanked first sorts v n = is_among n (universe first sorts v ++ others first sorts v) ≡ true

-- the universe has null and the pointers of the first names, and no others; its ranks are the numbers below its size, in the order of
-- its pointers; other pointers have ranks from there on, and no two that are ranked have one rank
pub record AreRanks (first : ℕ) (sorts : List Sort) (v : Values) : Type 0 where
  pub members : (n : ℕ) → is_among n (universe first sorts v) ≡ is_among n (pointer_values first sorts v)
  pub some : 1 ≤ universe_size first sorts v
  pub null : rank first sorts v 0 ≡ 0
  pub inside : (n : ℕ) → is_among n (universe first sorts v) ≡ true → rank first sorts v n < universe_size first sorts v
  pub beside : (n : ℕ) → is_among n (universe first sorts v) ≡ false → universe_size first sorts v ≤ rank first sorts v n
  pub every : (k : ℕ) → k < universe_size first sorts v → (n : ℕ) × (is_among n (universe first sorts v) ≡ true) × (rank first sorts v n ≡ k)
  pub order : (m n : ℕ) → is_among m (universe first sorts v) ≡ true → is_among n (universe first sorts v) ≡ true → m < n → rank first sorts v m < rank first sorts v n
  pub distinct : (m n : ℕ) → IsRanked first sorts v m → IsRanked first sorts v n → rank first sorts v m ≡ rank first sorts v n → m ≡ n

abbrev pub RanksAreInOrder : Type 0
RanksAreInOrder = (first : ℕ) (sorts : List Sort) (v : Values) → AreRanks first sorts v

-- ---- names
-- the value of a name is ranked, its rank is the new value, and a name among the first has its value in the universe
pub record HasRank (first : ℕ) (sorts : List Sort) (v : Values) (name : ℕ) : Type 0 where
  pub listed : IsRanked first sorts v (pointer (name_value v name))
  pub value : name_value (ranked first sorts v) name ≡ whole (pos (rank first sorts v (pointer (name_value v name))))
  pub inside : name < first → rank first sorts v (pointer (name_value v name)) < universe_size first sorts v

abbrev pub NamesHaveRanks : Type 0
NamesHaveRanks = (first : ℕ) (sorts : List Sort) (v : Values) (name : ℕ) → slice_get sorts name ≡ Some Ptr → HasRank first sorts v name

abbrev pub OtherNamesKeepValues : Type 0
OtherNamesKeepValues = (first : ℕ) (sorts : List Sort) (v : Values) (name : ℕ) → (slice_get sorts name ≡ Some Ptr → ⊥)
    → name_value (ranked first sorts v) name ≡ name_value v name

-- ---- sorts and truth
pub record RanksKeepSorts : Type 0 where
  pub all : (first : ℕ) (sorts : List Sort) (v : Values) → AreOfSorts sorts v → AreOfSorts sorts (ranked first sorts v)
  pub have : (first : ℕ) (sorts : List Sort) (v : Values) → HaveSorts sorts v → HaveSorts sorts (ranked first sorts v)

pub record RanksKeepTruth : Type 0 where
  pub literal : (first : ℕ) (sorts : List Sort) (v : Values) → HaveSorts sorts v → (l : Lit) → IsFit sorts l → IsTrueAt (ranked first sorts v) l ↔ IsTrueAt v l
  pub line : (first : ℕ) (sorts : List Sort) (v : Values) → HaveSorts sorts v → (ls : List Lit) → All (IsFit sorts) ls → LineIsTrue (ranked first sorts v) ls ↔ LineIsTrue v ls
