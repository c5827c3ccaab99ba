-- What the calls answer.
use Rattle.std.specs.Prelude.{Result, Ok, Err}
use Rattle.hp_class.specs.declared.groups.TablesErr.{TablesErr}
use Rattle.hp_class.specs.declared.groups.TablesErr.TheVariants.{Slope, Memory}

-- a slope that can't be computed
abbrev pub IsSlope : {A : Type 0} → Result A TablesErr → Type 0
IsSlope (Ok x) = ⊥
IsSlope (Err (Slope slope)) = Unit {0}
IsSlope (Err Memory) = ⊥
