use Rattle.std.proofs.Common.{◌≡◌, drop}
use Rattle.std.specs.List.{list_all}
use Rattle.hp_flatten.specs.Flattening.{is_argument}
use Rattle.hp_flatten.proofs.arguments.are_placed.Given as goal

abbrev pub invariant-loop-var : goal.invariant-loop-var
invariant-loop-var l = list_all (is_argument l.args) l.vars ≡ list_all (is_argument l.args) (drop l.var-index l.vars)
