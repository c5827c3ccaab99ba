-- What index forms mean: the value of a form at values of the names.
use Rattle.hp_math.specs.Rational.{ℚ, whole, ◌+ℚ◌}
use Rattle.hp_lit.specs.Truth.{Values, optional_value}
use Rattle.hp_index.specs.declared.form.IndexForm.{IndexForm}

abbrev pub form_value : Values → IndexForm → ℚ
form_value v form = optional_value v form.base +ℚ whole form.offset
