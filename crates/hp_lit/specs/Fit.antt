-- The literals that can be decided: their names have the sorts that they ask for, and their numbers are not too large.
use Rattle.std.specs.Prelude.{◌≡◌, ℕ, ◌<◌, ◌^◌, List, ℤ, pos, ◌+ℤ◌, ◌≤ℤ◌, map, Option, Some, None, slice_get, unsigned_abs}
use Rattle.std.specs.List.{All}
use Rattle.std.specs.List.Sorted.{IsStrictlyIncreasing}
use Rattle.hp_tree.specs.Limits.{largest_bound}
use Rattle.hp_tree.specs.declared.problem.Sort.{Sort}
use Rattle.hp_tree.specs.declared.problem.Sort.TheVariants as sort
use Rattle.hp_lit.specs.declared.literal.Name.{Name}
use Rattle.hp_lit.specs.declared.literal.Part.{Part}
use Rattle.hp_lit.specs.declared.literal.NumLit.{NumLit}
use Rattle.hp_lit.specs.declared.literal.IdxLit.{IdxLit}
use Rattle.hp_lit.specs.declared.literal.PtrLit.{PtrLit}
use Rattle.hp_lit.specs.declared.literal.Lit.{Lit}
use Rattle.hp_lit.specs.declared.literal.Lit.TheVariants.{Num, Idx, Ptr}

-- ---- numbers
-- the names of these summands
abbrev pub part_names : List Part → List ℕ
part_names parts = map (λ p. p.name.0) parts

-- a literal whose names rise strictly, with no number above 2^127 - 1 in magnitude
pub record IsNumFit (l : NumLit) : Type 0 where
  pub rising : IsStrictlyIncreasing (part_names l.parts)
  pub narrow : All (λ p. unsigned_abs p.coef < 2 ^ 127) l.parts
  pub bound : unsigned_abs l.bound < 2 ^ 127

-- a bound of a magnitude of at most 10^25
pub record IsSmallBound (n : ℤ) : Type 0 where
  pub low : pos 0 ≤ℤ (n +ℤ pos largest_bound)
  pub high : n ≤ℤ pos largest_bound

-- ---- sorts
-- no name, or one of the sort
abbrev pub IsSide : Sort → List Sort → Option Name → Type 0
IsSide s sorts None = Unit {0}
IsSide s sorts (Some name) = slice_get sorts name.0 ≡ Some s

abbrev pub IsIdxSide : List Sort → Option Name → Type 0
IsIdxSide sorts name = IsSide sort.Idx sorts name

-- ---- literals
-- a literal over names of sort num, which rise strictly, with no number above 2^127 - 1 in magnitude
pub record IsNumOver (sorts : List Sort) (l : NumLit) : Type 0 where
  pub fit : IsNumFit l
  pub names : All (λ p. slice_get sorts p.name.0 ≡ Some sort.Num) l.parts

-- a bound of a magnitude of at most 10^25 on names of sort idx
pub record IsRowOver (sorts : List Sort) (row : IdxLit) : Type 0 where
  pub bound : IsSmallBound row.bound
  pub left : IsIdxSide sorts row.left
  pub right : IsIdxSide sorts row.right

-- names of sort ptr
pub record IsPairOver (sorts : List Sort) (l : PtrLit) : Type 0 where
  pub left : IsSide sort.Ptr sorts l.left
  pub right : IsSide sort.Ptr sorts l.right

abbrev pub IsFit : List Sort → Lit → Type 0
IsFit sorts (Num l) = IsNumOver sorts l
IsFit sorts (Idx row) = IsRowOver sorts row
IsFit sorts (Ptr l) = IsPairOver sorts l
