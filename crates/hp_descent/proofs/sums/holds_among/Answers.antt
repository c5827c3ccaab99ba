use Rattle.std.proofs.Common.{◌≡◌, true, false, sym, ◌∙◌}
use Rattle.hp_descent.specs.Values.{is_met}
use Rattle.hp_descent.proofs.Addition.{narrow_is, decides_among}
use Rattle.hp_descent.proofs.sums.holds_among.Goals as goal

pub returns-in-Ok-clause-yes : goal.returns-in-Ok-clause-yes
returns-in-Ok-clause-yes c told v given =
    let e = rw c.as_slice.ensures at (sym c.sum_among.ensures ∙ c.in-Ok.is) in
    let h = rw (narrow_is c.args.other.now.bound c.requires.other.bound) at c.standing.ensures in
    let m = c.is_met.ensures in
    let met : is_met c.args.other.now.rel c.standing.result ≡ true = cc in
    (decides_among c.args.values.now c.args.other.now c.in-Ok.sum c.standing.result v e h given).0 met

pub returns-in-Ok-clause-no : goal.returns-in-Ok-clause-no
returns-in-Ok-clause-no c told v given holds =
    let e = rw c.as_slice.ensures at (sym c.sum_among.ensures ∙ c.in-Ok.is) in
    let h = rw (narrow_is c.args.other.now.bound c.requires.other.bound) at c.standing.ensures in
    let m = c.is_met.ensures in
    let unmet : is_met c.args.other.now.rel c.standing.result ≡ false = cc in
    let met = (decides_among c.args.values.now c.args.other.now c.in-Ok.sum c.standing.result v e h given).1 holds in
    cc
