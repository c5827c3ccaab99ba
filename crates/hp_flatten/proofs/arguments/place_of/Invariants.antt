use Rattle.std.proofs.Common.{◌≡◌, drop}
use Rattle.std.specs.List.{position_from}
use Rattle.hp_flatten.specs.Flattening.{is_named, place_of}
use Rattle.hp_flatten.proofs.arguments.place_of.Given as goal

abbrev pub invariant-loop-at : goal.invariant-loop-at
invariant-loop-at l = place_of l.args l.word ≡ position_from (is_named l.word) l.at (drop l.at l.args)
