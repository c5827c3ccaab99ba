use Rattle.std.proofs.Common.{arith}
use Rattle.hp_ptreq.proofs.Searching.{hop_left, hop_right}
use Rattle.hp_ptreq.proofs.ways.go_over.Goals as goal

pub meet-requires-clause-from : goal.meet-requires-clause-from
meet-requires-clause-from c =
    let hop = hop_right c.args.joins.now c.args.nodes c.args.start c.args.search.now c.args.at c.requires.met c.requires.at (c.requires.within c.args.at _ c.requires.at).right (omega arith) in
    omega (arith, hop.0)

pub meet-requires-clause-hop : goal.meet-requires-clause-hop
meet-requires-clause-hop c =
    let hop = hop_right c.args.joins.now c.args.nodes c.args.start c.args.search.now c.args.at c.requires.met c.requires.at (c.requires.within c.args.at _ c.requires.at).right (omega arith) in
    rw c.mark_of-right.ensures hop.1

pub meet-requires-then-right-eq0-clause-from : goal.meet-requires-then-right-eq0-clause-from
meet-requires-then-right-eq0-clause-from c =
    let hop = hop_left c.args.joins.now c.args.nodes c.args.start c.args.search.now c.args.at c.requires.met c.requires.at (c.requires.within c.args.at _ c.requires.at).left (omega arith) in
    omega (arith, hop.0)

pub meet-requires-then-right-eq0-clause-hop : goal.meet-requires-then-right-eq0-clause-hop
meet-requires-then-right-eq0-clause-hop c =
    let hop = hop_left c.args.joins.now c.args.nodes c.args.start c.args.search.now c.args.at c.requires.met c.requires.at (c.requires.within c.args.at _ c.requires.at).left (omega arith) in
    rw c.mark_of-left.ensures hop.1
