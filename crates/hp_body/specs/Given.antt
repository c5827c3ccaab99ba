-- What a step of the code gives, against the step of the machine.
use Rattle.std.specs.Prelude.{◌≡◌, Option, Some, None, Result, Ok, Err}
use Rattle.hp_body.specs.declared.stop.Stop.{Stop}
use Rattle.hp_body.specs.declared.stop.Stop.TheVariants.{Refused, Memory}

abbrev pub Stops : {Y : Type 0} → Stop → Option Y → Type 0
Stops Refused o = o ≡ None
Stops Memory o = Unit {0}

-- The value, seen by view, is that of the machine; a refusal is one of the machine; memory may run out.
abbrev pub Gives : {X Y : Type 0} → (X → Y) → Result X Stop → Option Y → Type 0
Gives view (Ok x) o = o ≡ Some (view x)
Gives view (Err e) o = Stops e o
