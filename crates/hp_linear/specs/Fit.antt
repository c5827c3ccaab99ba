-- Linear forms over names of sort num, and forms and literals in which no coefficient is 0.
use Rattle.std.specs.Prelude.{◌≡◌, ℕ, List, pos, map, Some, slice_get}
use Rattle.std.specs.List.{All}
use Rattle.std.specs.List.Sorted.{IsStrictlyIncreasing}
use Rattle.hp_math.specs.Rational.{whole}
use Rattle.hp_tree.specs.declared.problem.Sort.{Sort}
use Rattle.hp_tree.specs.declared.problem.Sort.TheVariants as sort
use Rattle.hp_lit.specs.declared.literal.Lit.{Lit}
use Rattle.hp_lit.specs.declared.literal.Lit.TheVariants.{Num, Idx, Ptr}
use Rattle.hp_lit.specs.declared.line.LinPart.{LinPart}
use Rattle.hp_lit.specs.declared.line.Lin.{Lin}

-- the names of these summands
abbrev pub lin_names : List LinPart → List ℕ
lin_names parts = map (λ p. p.name.0) parts

-- names of sort num, which rise strictly
pub record IsLinOver (sorts : List Sort) (lin : Lin) : Type 0 where
  pub rising : IsStrictlyIncreasing (lin_names lin.parts)
  pub names : All (λ p. slice_get sorts p.name.0 ≡ Some sort.Num) lin.parts

-- no coefficient is 0
abbrev pub HasNoZeros : Lin → Type 0
HasNoZeros lin = All (λ p. p.coef ≡ whole (pos 0) → ⊥) lin.parts

-- the same of a literal over fractions
abbrev pub LitHasNoZeros : Lit → Type 0
LitHasNoZeros (Num l) = All (λ p. p.coef ≡ pos 0 → ⊥) l.parts
LitHasNoZeros (Idx l) = ⊥
LitHasNoZeros (Ptr l) = ⊥
