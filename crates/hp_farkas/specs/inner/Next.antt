-- The least name from a number on.
use Rattle.std.specs.Prelude.{ℕ, List, [], ◌∷◌, Option, Some, None, nat_lt, nat_le, if◌then◌else◌}
use Rattle.hp_lit.specs.declared.literal.Name.{Name}
use Rattle.hp_lit.specs.declared.literal.Part.{Part}
use Rattle.hp_lit.specs.Leaf.{Taken}

abbrev pub lower : Option Name → Name → Option Name
lower None n = Some n
lower (Some m) n = if nat_le m.0 n.0 then Some m else Some n

abbrev pub lesser : ℕ → Option Name → Name → Option Name
lesser from best n = if nat_lt n.0 from then best else lower best n

abbrev pub least_part : ℕ → Option Name → List Part → Option Name
least_part from best [] = best
least_part from best (p ∷ ps) = least_part from (lesser from best p.name) ps

abbrev pub least_name : ℕ → Option Name → List Taken → Option Name
least_name from best [] = best
least_name from best (t ∷ ts) = least_name from (least_part from best t.lit.parts) ts
