use Rattle.std.proofs.Common.{◌≡◌, take, ◌++◌}
use Rattle.std.specs.Prelude.{codes}
use Rattle.std.specs.List.{join_by}
use Rattle.hp_cert.specs.Forms.{arg_text}
use Rattle.hp_cert.proofs.forms.put_args.Given as goal

abbrev pub invariant-loop-i : goal.invariant-loop-i
invariant-loop-i l = l.out ≡ l.fn.out ++ join_by (arg_text l.names) (codes ", ") (take l.i l.args)
