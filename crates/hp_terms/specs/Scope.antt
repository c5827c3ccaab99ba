-- What words mean where a term stands.
use Rattle.std.specs.Prelude.{◌≡◌, Bool, true, List, Option, Some}
use Rattle.hp_math.specs.Rational.{ℚ}
use Rattle.hp_tree.specs.declared.problem.Sort.{Sort}
use Rattle.hp_tree.specs.Value.{Word}

-- the sorts of the arguments of a function in their order, and that of its result
pub record Profile : Type 0 where
  pub args : List Sort
  pub result : Sort

-- the sort of a name without arguments, the profile of an applied one, and the numbers that stand for pointers
pub record Scope : Type 0 where
  pub name : Word → Option Sort
  pub function : Word → Option Profile
  pub pointer : ℚ → Bool

-- the second scope says all that the first one says
pub record Widens (less more : Scope) : Type 0 where
  pub names : (word : Word) (sort : Sort) → less.name word ≡ Some sort → more.name word ≡ Some sort
  pub functions : (word : Word) (profile : Profile) → less.function word ≡ Some profile → more.function word ≡ Some profile
  pub pointers : (number : ℚ) → less.pointer number ≡ true → more.pointer number ≡ true
