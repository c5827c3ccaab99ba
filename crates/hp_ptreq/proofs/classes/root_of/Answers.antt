use Rattle.std.proofs.Common.{◌≡◌, arith}
use Rattle.hp_ptreq.specs.inner.Classes.{parent_at}
use Rattle.hp_ptreq.proofs.Trees.{start_climb, next_climb, end_climb}
use Rattle.hp_ptreq.proofs.classes.root_of.Goals as goal

pub up-init : goal.up-init
up-init c = start_climb _ _ _ c.requires.trees c.requires.node

pub up-smaller : goal.up-smaller
up-smaller c =
    let step = next_climb _ _ _ _ _ c.requires.trees c.up.invariant (λ (e : parent_at c.up.parents c.up.at ≡ c.up.at). omega arith) in
    rw (c.parent_of-next.ensures, c.parent_of-parent.ensures) step.0

pub up-preserved : goal.up-preserved
up-preserved c =
    let step = next_climb _ _ _ _ _ c.requires.trees c.up.invariant (λ (e : parent_at c.up.parents c.up.at ≡ c.up.at). omega arith) in
    rw (c.set.ensures, c.parent_of-next.ensures, c.parent_of-parent.ensures) step.1

pub returns-then-parent-at-clause-root : goal.returns-then-parent-at-clause-root
returns-then-parent-at-clause-root c = end_climb _ _ _ _ _ c.up.invariant (omega arith)
