use Rattle.std.proofs.Common.{◌≤◌, ◌+◌, drop, map}
use Rattle.hp_base.proofs.Each.{IsUnder}
use Rattle.hp_norm.specs.Opening.{opened, run}
use Rattle.hp_norm.proofs.Weighing.{total}
use Rattle.hp_norm.proofs.opening.+opened.Given as goal

abbrev pub invariant-opened_terms-loop-term : goal.invariant-opened_terms-loop-term
invariant-opened_terms-loop-term l =
    IsUnder run (map (opened l.vars l.item) l.terms) l.term-index l.all l.fn.ground l.ground × ((total l.all + total (drop l.term-index l.terms)) ≤ total l.terms)
