-- The texts of names, of linear forms and of arguments.
use Rattle.std.specs.Prelude.{ℕ, ◌&&◌, if◌then◌else◌, nat_eq, ◌+◌, ◌-◌, List, [], ◌∷◌, ◌++◌, length, codes, ℤ, pos, int_lt, unsigned_abs, Option, Some, None, slice_get}
use Rattle.std.specs.List.{flat_map}
use Rattle.std.specs.Fmt.{decimal, signed_decimal}
use Rattle.hp_math.specs.Rational.{ℚ}
use Rattle.hp_ast.specs.Printing.{frac_text}
use Rattle.hp_lit.specs.declared.literal.Name.{Name}
use Rattle.hp_lit.specs.declared.literal.Part.{Part}
use Rattle.hp_lit.specs.declared.line.LinPart.{LinPart}
use Rattle.hp_lit.specs.declared.line.Lin.{Lin}
use Rattle.hp_lit.specs.declared.line.Arg.{Arg}
use Rattle.hp_lit.specs.declared.line.Arg.TheVariants.{Number, Named, Index, Null}
use Rattle.hp_defs.specs.declared.names.Constant.{Constant}
use Rattle.hp_defs.specs.Names.{NameList}

-- ---- names

-- the declared name of a constant, and `_` with its number, counted from 1, for a definition
abbrev pub constant_or_made : Option Constant → ℕ → List ℕ
constant_or_made (Some constant) number = constant.name
constant_or_made None number = codes "_" ++ decimal number

abbrev pub name_text : NameList → Name → List ℕ
name_text names name = constant_or_made (slice_get names.constants name.0) (name.0 - length names.constants + 1)

-- ---- numbers behind a sign

-- the sign before the first summand of a sum
abbrev pub first_sign : ℤ → List ℕ
first_sign num = if int_lt num (pos 0) then codes "-" else []

-- the sign before each further summand
abbrev pub further_sign : ℤ → List ℕ
further_sign num = if int_lt num (pos 0) then codes " - " else codes " + "

-- a fraction without its sign: its denominator is written unless it is 1
abbrev pub magnitude_text : ℤ → ℕ → List ℕ
magnitude_text num den = decimal (unsigned_abs num) ++ (if nat_eq den 1 then [] else (codes "/" ++ decimal den))

-- a multiple of a name without its sign: a factor of magnitude 1 is left out
abbrev pub multiple_text : ℤ → ℕ → List ℕ → List ℕ
multiple_text num den name = if nat_eq (unsigned_abs num) 1 && nat_eq den 1 then name else (magnitude_text num den ++ codes "*" ++ name)

-- the number behind the multiples of names: 0 is left out
abbrev pub rest_text : ℤ → ℕ → List ℕ
rest_text num den = if nat_eq (unsigned_abs num) 0 then [] else (further_sign num ++ magnitude_text num den)

-- ---- linear forms

-- the first item in one way, and each further one in another
abbrev pub by_place : {X : Type 0} → (X → List ℕ) → (X → List ℕ) → List X → List ℕ
by_place first further [] = []
by_place first further (x ∷ xs) = first x ++ flat_map further xs

-- a multiple of a name behind its sign
unfoldable pub first_multiple : NameList → ℤ → ℕ → Name → List ℕ
first_multiple names num den name = first_sign num ++ multiple_text num den (name_text names name)

unfoldable pub further_multiple : NameList → ℤ → ℕ → Name → List ℕ
further_multiple names num den name = further_sign num ++ multiple_text num den (name_text names name)

abbrev pub first_part : NameList → Part → List ℕ
first_part names part = first_multiple names part.coef 1 part.name

abbrev pub further_part : NameList → Part → List ℕ
further_part names part = further_multiple names part.coef 1 part.name

-- a sum of whole multiples of names, which is 0 where there is none
abbrev pub parts_text : NameList → List Part → List ℕ
parts_text names [] = codes "0"
parts_text names (part ∷ parts) = by_place (first_part names) (further_part names) (part ∷ parts)

abbrev pub first_summand : NameList → LinPart → List ℕ
first_summand names part = first_multiple names part.coef.num part.coef.den part.name

abbrev pub further_summand : NameList → LinPart → List ℕ
further_summand names part = further_multiple names part.coef.num part.coef.den part.name

-- multiples of names and a number, which stands last
abbrev pub sum_text : NameList → List LinPart → ℚ → List ℕ
sum_text names [] rest = frac_text rest
sum_text names (part ∷ parts) rest = by_place (first_summand names) (further_summand names) (part ∷ parts) ++ rest_text rest.num rest.den

abbrev pub lin_text : NameList → Lin → List ℕ
lin_text names lin = sum_text names lin.parts lin.rest

-- ---- arguments

-- a whole number, or a name and the number that is added to it
abbrev pub index_text : NameList → Option Name → ℤ → List ℕ
index_text names None offset = signed_decimal offset
index_text names (Some name) offset = name_text names name ++ rest_text offset 1

abbrev pub arg_text : NameList → Arg → List ℕ
arg_text names (Number value) = frac_text value
arg_text names (Named name) = name_text names name
arg_text names (Index base offset) = index_text names base offset
arg_text names Null = codes "null"
