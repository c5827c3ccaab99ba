use Rattle.std.proofs.Common.{◌≡◌, take}
use Rattle.hp_tuple_lines.specs.TupleLines.{args_at}
use Rattle.hp_tuple_lines.proofs.lines.args_at.Given as goal

abbrev pub invariant-loop-place : goal.invariant-loop-place
invariant-loop-place l = l.args ≡ args_at l.over (take l.place-index l.places)
