use Rattle.std.proofs.Common.{subst, ℕ, ◌≡◌, ◌+◌, ◌-◌, ◌<◌, length, arith}
use Rattle.hp_diff.proofs.Lowering.{IsScan, next_scan}
use Rattle.hp_diff.proofs.repair.scan.Goals as goal

pub edges-preserved : goal.edges-preserved
edges-preserved c =
    let at = c.edges.after - 1 in
    let is : c.edges.after ≡ at + 1 = omega (arith, c.edges-test.true) in
    let edges = c.args.net.now.edges in
    let before = subst (λ (n : ℕ). IsScan c.args.nodes edges c.args.work.now c.edges.work c.args.head c.args.tail c.edges.end c.args.node n) is c.edges.invariant in
    let within = c.edges.invariant.within in
    let at_in : at < length edges = omega arith in
    let goes = rw (c.in-Go.is, c.as_slice-in-edges.ensures) at c.relax.ensures in
    rw c.as_slice-in-edges-2.ensures (next_scan _ _ _ _ _ _ _ _ _ _ at _ before goes (c.requires.linked.next at at_in))
