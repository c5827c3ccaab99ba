use Rattle.std.proofs.Common.{◌≡◌, List, pos, drop}
use Rattle.hp_lit.specs.declared.literal.IdxLit.{IdxLit}
use Rattle.hp_lit.specs.Cycle.{AreRowsOf}
use Rattle.hp_leaf.specs.Check.{sum_from}
use Rattle.hp_leaf.proofs.cycle.add_up.Given as goal

abbrev pub invariant-loop-step : goal.invariant-loop-step
invariant-loop-step l = (rows : List IdxLit) → AreRowsOf l.path l.steps rows
    → (rest : List IdxLit) × AreRowsOf l.path (drop l.step-index l.steps) rest × (sum_from (pos 0) rows ≡ sum_from l.total.sum rest)
