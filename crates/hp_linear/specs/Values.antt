-- What linear forms mean: the value of a form at values of the names, and how two values stand to each other.
use Rattle.std.specs.Prelude.{◌≡◌, List, [], ◌∷◌, pos}
use Rattle.hp_math.specs.Rational.{ℚ, whole, ◌+ℚ◌, ◌*ℚ◌, ◌≤ℚ◌, ◌<ℚ◌}
use Rattle.hp_tree.specs.declared.problem.Cmp.{Cmp}
use Rattle.hp_tree.specs.declared.problem.Cmp.TheVariants.{Le, Lt, Eq, Ne, Ge, Gt}
use Rattle.hp_lit.specs.declared.line.LinPart.{LinPart}
use Rattle.hp_lit.specs.declared.line.Lin.{Lin}
use Rattle.hp_lit.specs.Truth.{Values, name_value}

abbrev pub sum_value : Values → List LinPart → ℚ
sum_value v [] = whole (pos 0)
sum_value v (s ∷ ss) = s.coef *ℚ name_value v s.name.0 +ℚ sum_value v ss

abbrev pub lin_value : Values → Lin → ℚ
lin_value v f = sum_value v f.parts +ℚ f.rest

abbrev pub Stands : Cmp → ℚ → ℚ → Type 0
Stands Le a b = a ≤ℚ b
Stands Lt a b = a <ℚ b
Stands Eq a b = a ≡ b
Stands Ne a b = a ≡ b → ⊥
Stands Ge a b = b ≤ℚ a
Stands Gt a b = b <ℚ a
