use Rattle.std.proofs.Common.{◌≡◌, take, ◌++◌}
use Rattle.hp_cert.specs.Forms.{by_place, first_part, further_part}
use Rattle.hp_cert.proofs.forms.put_multiples.Given as goal

abbrev pub invariant-loop-i : goal.invariant-loop-i
invariant-loop-i l = l.out ≡ l.fn.out ++ by_place (first_part l.names) (further_part l.names) (take l.i l.parts)
