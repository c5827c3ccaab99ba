use Rattle.std.proofs.Common.{◌≡◌, take}
use Rattle.hp_base.specs.Values.{arg_values}
use Rattle.hp_tables.proofs.values.arg_values.Given as goal

abbrev pub invariant-loop-arg : goal.invariant-loop-arg
invariant-loop-arg l = l.found ≡ arg_values l.values (take l.arg-index l.args)
