use Rattle.std.proofs.Common.{◌≡◌, take, ◌++◌}
use Rattle.hp_cert.specs.Forms.{by_place, first_summand, further_summand}
use Rattle.hp_cert.proofs.forms.put_summands.Given as goal

abbrev pub invariant-loop-i : goal.invariant-loop-i
invariant-loop-i l = l.out ≡ l.fn.out ++ by_place (first_summand l.names) (further_summand l.names) (take l.i l.parts)
