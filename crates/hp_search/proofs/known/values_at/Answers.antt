use Rattle.std.proofs.Common.{refl}
use Rattle.hp_search.proofs.Reading.{lits_readable}
use Rattle.hp_search.proofs.Valuing.{small_of, values_true}
use Rattle.hp_search.proofs.known.values_at.Goals as goal

pub all_hold-requires : goal.all_hold-requires
all_hold-requires c =
    let ss = c.args.sorts.now in
    let v = c.in_ok-values.values.values in
    lits_readable ss v (small_of ss v c.in_ok-values.ensures) c.args.lits.now c.requires

pub returns-then-all_hold : goal.returns-then-all_hold
returns-then-all_hold c = values_true c.args.sorts.now c.args.lits.now c.in_ok-values.values.values c.in_ok-values.ensures (c.if-all_hold.ensures refl)
