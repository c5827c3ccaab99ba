use Rattle.std.proofs.Common.{◌≡◌}
use Rattle.hp_cert.specs.Entries.{first_defs}
use Rattle.hp_cert.proofs.listing.defined.Given as goal

abbrev pub invariant-loop-i : goal.invariant-loop-i
invariant-loop-i l = l.defs ≡ first_defs l.names l.i
