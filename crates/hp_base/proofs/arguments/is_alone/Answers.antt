use Rattle.std.proofs.Common.{pos, sym, ◌∙◌}
use Rattle.hp_math.specs.Rational.{eq_ℚ, whole}
use Rattle.hp_base.proofs.Alone.{both_hold, is_one, is_zero, one_fails}
use Rattle.hp_base.proofs.arguments.is_alone.Goals as goal

pub returns-then-eq : goal.returns-then-eq
returns-then-eq c =
    both_hold (eq_ℚ c.args.part.coef (whole (pos 1))) (eq_ℚ c.args.rest (whole (pos 0))) c.is_zero.result
    (sym (c.eq.ensures ∙ is_one c.args.part.coef c.new.result c.new.ensures) ∙ c.if-eq.true)
    (is_zero c.is_zero.result c.args.rest c.is_zero.ensures.0 c.is_zero.ensures.1)

pub returns-else-eq : goal.returns-else-eq
returns-else-eq c =
    one_fails (eq_ℚ c.args.part.coef (whole (pos 1))) (eq_ℚ c.args.rest (whole (pos 0))) c.eq.result
    (c.eq.ensures ∙ is_one c.args.part.coef c.new.result c.new.ensures) c.if-eq.false
