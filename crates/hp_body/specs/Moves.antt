-- What a step in place leaves, against the step of the machine.
use Rattle.std.specs.Prelude.{◌≡◌, List, Option, Some, None, Result, Ok, Err}
use Rattle.hp_tree.specs.declared.problem.Atom.{Atom}
use Rattle.hp_body.specs.declared.stop.Stop.{Stop}
use Rattle.hp_body.specs.declared.state.Mode.{Mode}
use Rattle.hp_body.specs.declared.state.Frame.{Frame}
use Rattle.hp_body.specs.declared.body.Place.{Place}
use Rattle.hp_body.specs.declared.body.Side.{Side}
use Rattle.hp_body.specs.declared.body.Body.{Body}
use Rattle.hp_body.specs.declared.body.Body.TheVariants.{Reading, Closed}
use Rattle.hp_body.specs.Given.{Stops}

-- What is left is the machine's state; a refusal is one of the machine; memory may run out.
abbrev pub Moves : {X U : Type 0} → X → Result U Stop → Option X → Type 0
Moves x (Ok u) o = o ≡ Some x
Moves x (Err e) o = Stops e o

-- a body that goes on with these parts, unless it is closed with a guard
abbrev pub behind : Option (List Atom) → Place → Side → Mode → List Frame → Body
behind None p d m fs = Reading p d m fs
behind (Some g) p d m fs = Closed g
