use Rattle.std.proofs.Common.{◌≡◌, ◌++◌, drop}
use Rattle.hp_flatten.specs.Flattening.{equalities, equalities_from}
use Rattle.hp_flatten.proofs.equalities.add_equalities.Given as goal

abbrev pub invariant-loop-at : goal.invariant-loop-at
invariant-loop-at l = l.fn.guard ++ equalities l.application l.vars ≡ l.guard ++ equalities_from l.application l.vars l.at (drop l.at l.application.args)
