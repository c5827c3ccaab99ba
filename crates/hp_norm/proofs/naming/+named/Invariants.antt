use Rattle.std.proofs.Common.{map}
use Rattle.std.specs.List.{All}
use Rattle.hp_defs.specs.Made.{IsSmallArg}
use Rattle.hp_base.proofs.Each.{IsUnder}
use Rattle.hp_norm.specs.Naming.{named, placed, placed_argument}
use Rattle.hp_norm.proofs.naming.+named.Given as goal

abbrev pub invariant-arguments-loop-at : goal.invariant-arguments-loop-at
invariant-arguments-loop-at l = IsUnder (placed_argument l.item) (placed (map (named l.item) l.terms) l.sorts) l.at l.all l.fn.ground l.ground × All IsSmallArg l.all
