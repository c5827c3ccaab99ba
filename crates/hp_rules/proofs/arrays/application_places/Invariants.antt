use Rattle.std.proofs.Common.{◌≡◌, ◌++◌, drop}
use Rattle.hp_rules.specs.Rules.{application_places}
use Rattle.hp_rules.proofs.arrays.application_places.Given as goal

abbrev pub invariant-loop-app : goal.invariant-loop-app
invariant-loop-app l = application_places l.names l.apps ≡ l.places ++ application_places l.names (drop l.app-index l.apps)
