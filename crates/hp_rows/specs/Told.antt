-- What a call that may want memory tells of a computation.
use Rattle.std.specs.Prelude.{◌≡◌, Result, Ok, Err, Bool, true, false, pos, List}
use Rattle.hp_math.specs.Rational.{ℚ, whole}
use Rattle.hp_num.specs.declared.wide.Wide.{Wide}
use Rattle.hp_rows.specs.declared.row.Row.{Row}
use Rattle.hp_rows.specs.declared.line.Fail.{Fail}
use Rattle.hp_rows.specs.declared.line.Fail.TheVariants as fail
use Rattle.hp_rows.specs.Rows.{Holds, Breaks}
use Rattle.hp_rows.specs.Points.{at_point, left_of}

-- the same result, the same operation that is too wide, or want of memory
abbrev pub Tells : {T : Type 0} → Result T Fail → Result T Wide → Type 0
Tells (Ok x) r = r ≡ Ok x
Tells (Err (fail.Wide w)) r = r ≡ Err w
Tells (Err fail.Memory) r = Unit {0}

-- whether the point breaks the row
abbrev pub TestTells : Row → List ℚ → Result Bool Wide → Type 0
TestTells row point (Ok true) = Breaks row (at_point point)
TestTells row point (Ok false) = Holds row (at_point point)
TestTells row point (Err w) = left_of (whole (pos 0)) row.coefs point ≡ Err w
