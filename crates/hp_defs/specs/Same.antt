-- Tests of bodies for equality, and the place of a body among definitions.
use Rattle.std.specs.Prelude.{ℕ, Bool, true, false, ◌&&◌, nat_eq, List, Option, Some, None, position}
use Rattle.std.specs.Ordering.{int_eq}
use Rattle.std.specs.Cmp.Lexicographic.{pointwise}
use Rattle.hp_math.specs.Rational.{eq_ℚ}
use Rattle.hp_lit.specs.declared.literal.Name.{Name}
use Rattle.hp_lit.specs.declared.line.Arg.{Arg}
use Rattle.hp_lit.specs.declared.line.Arg.TheVariants.{Number, Named, Index, Null}
use Rattle.hp_lit.specs.declared.line.LinPart.{LinPart}
use Rattle.hp_lit.specs.declared.line.Body.{Body}
use Rattle.hp_lit.specs.declared.line.Body.TheVariants.{Apply, Sum}
use Rattle.hp_lit.specs.declared.line.Def.{Def}

abbrev pub same_base : Option Name → Option Name → Bool
same_base None None = true
same_base (Some m) (Some n) = nat_eq m.0 n.0
same_base _ _ = false

abbrev pub same_arg : Arg → Arg → Bool
same_arg (Number x) (Number y) = eq_ℚ x y
same_arg (Named m) (Named n) = nat_eq m.0 n.0
same_arg (Index m x) (Index n y) = same_base m n && int_eq x y
same_arg Null Null = true
same_arg _ _ = false

abbrev pub same_part : LinPart → LinPart → Bool
same_part p q = nat_eq p.name.0 q.name.0 && eq_ℚ p.coef q.coef

abbrev pub same_body : Body → Body → Bool
same_body (Apply f xs) (Apply g ys) = nat_eq f g && pointwise same_arg xs ys
same_body (Sum x) (Sum y) = pointwise same_part x.parts y.parts && eq_ℚ x.rest y.rest
same_body _ _ = false

-- the place of the first definition with this body, counted from 0
abbrev pub place : Body → List Def → Option ℕ
place body definitions = position (λ d. same_body body d.body) definitions
