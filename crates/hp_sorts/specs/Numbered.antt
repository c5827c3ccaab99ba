-- What stands at the place of a name.
use Rattle.std.specs.Prelude.{List, Option, position, slice_get, option_and_then}
use Rattle.std.specs.Str.{bytes_eq}
pub use Rattle.hp_names.specs.Names.{Name, is_among}

-- what stands at the place of the name, where there is one
abbrev pub named : {X : Type 0} → Name → List Name → List X → Option X
named name names things = option_and_then (λ place. slice_get things place) (position (bytes_eq name) names)
