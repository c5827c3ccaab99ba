use Rattle.std.proofs.Common.{◌≡◌, map, take}
use Rattle.hp_class.specs.Places.{points_at}
use Rattle.hp_cases.specs.Cases.{point_tuple}
use Rattle.hp_cases.proofs.instances.tuples_at.Given as goal

abbrev pub invariant-loop-place : goal.invariant-loop-place
invariant-loop-place l = l.tuples ≡ map point_tuple (points_at l.definitions (take l.place-index l.places))
