use Rattle.std.proofs.Common.{◌≡◌, take, ◌++◌}
use Rattle.std.specs.List.{flat_map}
use Rattle.hp_cert.specs.Refutation.{listed_def}
use Rattle.hp_cert.proofs.refutation.put_defs.Given as goal

abbrev pub invariant-loop-def : goal.invariant-loop-def
invariant-loop-def l = l.out ≡ l.fn.out ++ flat_map listed_def (take l.def-index l.defs)
