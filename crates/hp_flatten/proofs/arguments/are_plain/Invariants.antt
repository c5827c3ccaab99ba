use Rattle.std.proofs.Common.{◌≡◌, drop}
use Rattle.std.specs.List.{list_all}
use Rattle.hp_flatten.specs.Flattening.{is_plain_argument}
use Rattle.hp_flatten.proofs.arguments.are_plain.Given as goal

abbrev pub invariant-loop-arg : goal.invariant-loop-arg
invariant-loop-arg l = list_all (is_plain_argument l.vars) l.args ≡ list_all (is_plain_argument l.vars) (drop l.arg-index l.args)
