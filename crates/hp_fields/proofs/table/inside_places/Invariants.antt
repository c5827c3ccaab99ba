use Rattle.std.proofs.Common.{◌≡◌, take}
use Rattle.hp_fields.specs.Fields.{inside_places}
use Rattle.hp_fields.proofs.table.inside_places.Given as goal

abbrev pub invariant-loop-place : goal.invariant-loop-place
invariant-loop-place l = l.found ≡ inside_places l.size l.values l.definitions (take l.place-index l.places)
