use Rattle.std.proofs.Common.{◌<◌, ◌+◌, ◌-◌, sym, ◌∙◌, ap, arith, get_or, length, refl}
use Rattle.std.proofs.lemmas.List.{get_or_default}
use Rattle.hp_lit.specs.declared.literal.NumLit.{NumLit}
use Rattle.hp_path.specs.Components.{first_label}
use Rattle.hp_path.proofs.Chained.{chained_end, chained_step}
use Rattle.hp_path.proofs.Gathering.{label_small}
use Rattle.hp_path.proofs.chains.chains_of.Goals as goal

pub loop-done-preserved : goal.loop-done-preserved
loop-done-preserved c =
    let labels = c.args.labels.now in
    let nums = c.args.nums.now in
    let at = length nums - 1 - c.loop-done.done in
    let x = c.index-nums-at.result in
    let inside : at < length nums = omega arith in
    let own = λ (d : NumLit).
    ap (λ (l : NumLit). first_label labels l.parts) (get_or_default nums at d x inside) ∙ ap (first_label labels) (sym c.as_slice.ensures) ∙ sym c.first_label-label.ensures in
    let small = label_small labels nums (get_or nums at x) at c.requires inside (get_or_default nums at x (get_or nums at x) inside) in
    let label = c.first_label-label.ensures ∙ ap (first_label labels) c.as_slice.ensures in
    let bound : c.first_label-label.result < length labels + 1 = omega (arith, small, label) in
    chained_step labels nums c.loop-done.chains c.put_before.new.chains c.loop-done.done at c.first_label-label.result c.loop-done-test.true refl bound own c.loop-done.invariant c.put_before.ensures

pub returns : goal.returns
returns c = chained_end c.args.labels.now c.args.nums.now c.loop-done.chains c.loop-done.done (omega arith) c.loop-done.invariant
