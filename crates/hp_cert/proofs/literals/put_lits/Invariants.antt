use Rattle.std.proofs.Common.{◌≡◌, take, ◌++◌}
use Rattle.std.specs.Prelude.{codes}
use Rattle.std.specs.List.{join_by}
use Rattle.hp_cert.specs.Literals.{lit_text}
use Rattle.hp_cert.proofs.literals.put_lits.Given as goal

abbrev pub invariant-loop-i : goal.invariant-loop-i
invariant-loop-i l = l.out ≡ l.fn.out ++ join_by (lit_text l.names) (codes " | ") (take l.i l.lits)
