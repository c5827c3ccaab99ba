use Rattle.std.proofs.Common.{◌≡◌, drop, replicate, length, false}
use Rattle.hp_cert.specs.Entries.{with_marks}
use Rattle.hp_cert.proofs.listing.marked.Given as goal

abbrev pub invariant-loop-node : goal.invariant-loop-node
invariant-loop-node l = (with_marks l.marks.items (drop l.node-index l.tree) ≡ with_marks (replicate (length l.g.lines) false) l.tree) × (length l.marks.items ≡ length l.g.lines)
