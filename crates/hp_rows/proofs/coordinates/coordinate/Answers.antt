use Rattle.std.proofs.Common.{◌≡◌, ◌<◌, pos, arith, ap, sym, ◌∙◌, subst, length, unsigned_abs}
use Rattle.std.proofs.lemmas.List.{get_or_read}
use Rattle.hp_math.proofs.Laws.{whole-inj}
use Rattle.hp_rows.specs.Lines.{entry, pivot}
use Rattle.hp_rows.proofs.Clearing.{pivot_is}
use Rattle.hp_rows.proofs.coordinates.coordinate.Goals as goal

pub div-requires : goal.div-requires
div-requires c e =
    let b : c.pivot.result < length c.args.g.now = subst (λ n. n < length c.args.g.now) (sym c.pivot.ensures) c.requires.pivot in
    let i : c.index-g-pivot.result ≡ entry c.args.g.now (pivot c.args.g.now) =
    get_or_read c.args.g.now c.pivot.result c.index-g-pivot.result b c.index-g-pivot.is (pos 0) ∙ ap (λ n. entry c.args.g.now n) c.pivot.ensures in
    let p = pivot_is c.args.g.now c.requires.pivot in
    let z = ap unsigned_abs (sym i ∙ whole-inj _ (pos 0) (sym c.whole.ensures ∙ e)) in
    omega (arith, p, z)
