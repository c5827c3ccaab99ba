-- The applications of a function among definitions, and the line of each two of them.
use Rattle.std.specs.Prelude.{ℕ, List, [], ◌∷◌, ◌++◌, map, nat_eq, if◌then◌else◌, Option, Some, None, Ok, slice_get}
use Rattle.hp_lit.specs.declared.line.Body.{Body}
use Rattle.hp_lit.specs.declared.line.Body.TheVariants.{Apply, Sum}
use Rattle.hp_lit.specs.declared.line.Def.{Def}
use Rattle.hp_defs.specs.declared.names.Signature.{Signature}
use Rattle.hp_base.specs.Making.{Maker, in_turn}
use Rattle.hp_base.specs.Congruence.{Point, congruence_of}

-- each entry with each that follows it, in their order
abbrev pub pairs : {A : Type 0} → List A → List (A × A)
pairs [] = []
pairs (x ∷ xs) = map (λ y. (x, y)) xs ++ pairs xs

abbrev pub body_point : ℕ → Def → Body → List Point
body_point func d (Apply g args) = if nat_eq g func then record { name = d.name; args = args } ∷ [] else []
body_point func d (Sum lin) = []

-- the applications of a function, in the order of their making
abbrev pub points : ℕ → List Def → List Point
points func [] = []
points func (d ∷ ds) = body_point func d d.body ++ points func ds

abbrev pub pair_line : Signature → Point × Point → Maker (Unit {0})
pair_line signature pair = congruence_of signature pair.0 pair.1

abbrev pub signature_lines : ℕ → Option Signature → Maker (Unit {0})
signature_lines func None g = Ok (tt, g)
signature_lines func (Some signature) g = in_turn (pair_line signature) (pairs (points func g.names.definitions)) g

-- the lines of a function
abbrev pub function_lines : ℕ → Maker (Unit {0})
function_lines func g = signature_lines func (slice_get g.names.signatures func) g
