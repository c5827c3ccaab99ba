-- Literals over one name, and values of names.
use Rattle.std.specs.Prelude.{◌≡◌, List, [], ◌∷◌, Some, slice_get}
use Rattle.hp_tree.specs.declared.problem.Sort.{Sort}
use Rattle.hp_lit.specs.declared.literal.Name.{Name}
use Rattle.hp_lit.specs.declared.literal.Lit.{Lit}
use Rattle.hp_lit.specs.Fit.{IsFit}
use Rattle.hp_lit.specs.Truth.{Values}
use Rattle.hp_path.specs.Placed.{IsValueOf}

-- a literal that can be decided wherever the name has this sort
abbrev pub IsFitAlone : Sort → Name → Lit → Type 0
IsFitAlone sort name lit = (sorts : List Sort) → slice_get sorts name.0 ≡ Some sort → IsFit sorts lit

-- a value for each sort, and one that can be given to its names
abbrev pub AreValuesOf : List Sort → Values → Type 0
AreValuesOf [] [] = Unit {0}
AreValuesOf (s ∷ ss) (x ∷ xs) = IsValueOf s x × AreValuesOf ss xs
AreValuesOf _ _ = ⊥
