use Rattle.std.proofs.Common.{◌≡◌, drop}
use Rattle.hp_norm.specs.Testing.{tested_apps}
use Rattle.hp_norm.proofs.testing.test_apps.Given as goal

abbrev pub invariant-loop-app : goal.invariant-loop-app
invariant-loop-app l = tested_apps l.names l.standing l.standing.apps ≡ tested_apps l.names l.standing (drop l.app-index l.standing.apps)
