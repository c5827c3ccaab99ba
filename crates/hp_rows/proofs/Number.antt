-- What a quotient comes to that is not refused.
use Rattle.std.proofs.Common.{◌≡◌, ℤ, pos, ◌∙◌, ap, Ok}
use Rattle.hp_math.specs.Rational.{ℚ, whole, ◌*ℚ◌, recip}
use Rattle.hp_math.proofs.Field.{*ℚ_comm}
use Rattle.hp_math.proofs.Laws.{/ℚ-*ℚ, whole-inj}
use Rattle.hp_num.specs.Wide.{div_of}
use Rattle.hp_num.proofs.Given.{mul_gave}

pub quotient_gave : (x t z : ℚ) → ¬ (t ≡ whole (pos 0)) → div_of x t ≡ Ok z → z *ℚ t ≡ x
quotient_gave x t z n e = ap (λ q. q *ℚ t) (mul_gave x (recip t) z e) ∙ /ℚ-*ℚ x t n

pub div_gave : (x z : ℚ) (v : ℤ) → ¬ (v ≡ pos 0) → div_of x (whole v) ≡ Ok z → whole v *ℚ z ≡ x
div_gave x z v n e = *ℚ_comm (whole v) z ∙ quotient_gave x (whole v) z (λ q. n (whole-inj v (pos 0) q)) e
