-- What an answer is checked for before it is given.
use Rattle.std.specs.Prelude.{◌≡◌, List, map}
use Rattle.std.specs.List.{All}
use Rattle.hp_lit.specs.declared.literal.NumLit.{NumLit}
use Rattle.hp_lit.specs.declared.literal.Lit.TheVariants.{Num}
use Rattle.hp_lit.specs.declared.valuation.NameValue.{NameValue}
use Rattle.hp_lit.specs.Truth.{Values, name_value, NumIsTrue}
use Rattle.hp_lit.specs.Leaf.{IsValidNum}
use Rattle.hp_descent.specs.Answers.{IsSolution}
use Rattle.hp_simplex.specs.declared.checks.Attempt.{Attempt}
use Rattle.hp_simplex.specs.declared.checks.Attempt.TheVariants as attempt

-- the names have these values
abbrev pub Agrees : Values → List NameValue → Type 0
Agrees v values = All (λ nv. name_value v nv.name.0 ≡ nv.value) values

-- wherever the names have these values, every literal is true
abbrev pub MeetAll : List NameValue → List NumLit → Type 0
MeetAll values lits = (v : Values) → Agrees v values → All (NumIsTrue v) lits

-- values of all names make the literals true; shares add up to nothing below 0; no answer claims nothing
abbrev pub IsRight : List NumLit → Attempt → Type 0
IsRight lits (attempt.Point values) = IsSolution lits values
IsRight lits (attempt.Farkas shares) = IsValidNum (map Num lits) shares
IsRight lits attempt.Unknown = Unit {0}
