use Rattle.std.proofs.Common.{drop}
use Rattle.hp_leaf.specs.Check.{LinkedFrom}
use Rattle.hp_leaf.proofs.cycle.leads_back.Given as goal

abbrev pub invariant-loop-step : goal.invariant-loop-step
invariant-loop-step l =
    (LinkedFrom l.path l.start l.steps l.start → LinkedFrom l.path l.at (drop l.step-index l.steps) l.start)
    × (LinkedFrom l.path l.at (drop l.step-index l.steps) l.start → LinkedFrom l.path l.start l.steps l.start)
