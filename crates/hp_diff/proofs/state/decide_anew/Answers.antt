use Rattle.std.proofs.Common.{refl}
use Rattle.hp_diff.proofs.Steps.{walk_within}
use Rattle.hp_diff.proofs.States.{shows}
use Rattle.hp_diff.proofs.state.decide_anew.Goals as goal

pub steps_of-requires : goal.steps_of-requires
steps_of-requires c =
    let settled = rw (c.in-Cycle.is, c.as_slice.ensures) at c.in_ok-values.ensures in
    rw (c.deref-in-Cycle.ensures.value, c.as_slice-in-Cycle.ensures) (walk_within _ _ _ _ settled.walk)

pub returns-in_ok-steps-in-Cycle-clause-ok : goal.returns-in_ok-steps-in-Cycle-clause-ok
returns-in_ok-steps-in-Cycle-clause-ok c =
    let settled = rw (c.in-Cycle.is, c.as_slice.ensures) at c.in_ok-values.ensures in
    let steps = rw (c.as_slice-in-Cycle.ensures, c.deref-in-Cycle.ensures.value) at c.in_ok-steps-in-Cycle.ensures in
    (record { ready = c.requires.ready; net = refl }, shows _ _ _ settled steps)
