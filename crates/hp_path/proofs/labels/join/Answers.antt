use Rattle.std.proofs.Common.{◌≡◌, ◌∙◌, arith, subst, sym, pos, length, ◌≤◌}
use Rattle.std.specs.List.{All}
use Rattle.std.proofs.lemmas.List.{take_all}
use Rattle.std.proofs.lemmas.List.Elements.{All-nil}
use Rattle.hp_lit.specs.declared.literal.Part.{Part}
use Rattle.hp_path.specs.Components.{first_label, label_at}
use Rattle.hp_path.proofs.Merging.{coarser_same, merged_same, part_joined}
use Rattle.hp_path.proofs.labels.join.Goals as goal
use Rattle.hp_path.proofs.labels.join.Goals.{then-kept-gone, else-kept-gone}

pub loop-part-init : goal.loop-part-init
loop-part-init c = (coarser_same c.args.labels.now, All-nil (λ (p : Part). label_at c.args.labels.now p.name.0 ≡ first_label c.args.labels.now c.args.parts.now))

pub loop-part-preserved : goal.loop-part-preserved
loop-part-preserved c =
    let none : Part = record { name = record { 0 = 0 }; coef = pos 0 } in
    let kept = c.first_label-kept.result in
    let gone = c.get-gone.result.now in
    let more = part_joined c.args.labels.now c.loop-part.labels c.if-kept-gone.labels c.args.parts.now c.loop-part.part-index none kept gone
    c.requires.names c.loop-part-test.true c.loop-part.invariant c.first_label-kept.ensures c.get-gone.ensures in
    elim c.if-kept-gone.branch [
      | then-kept-gone w ↦ more (w.labels-is ∙ w.merge.ensures)
      | else-kept-gone w ↦ more (w.labels-is ∙ sym (merged_same c.loop-part.labels kept gone w.if-kept-gone.false))
    ]

pub returns-clause-one : goal.returns-clause-one
returns-clause-one c =
    let end : length c.args.parts.now ≤ c.loop-part.part-index = omega arith in
    subst (All (λ (p : Part). label_at c.loop-part.labels p.name.0 ≡ first_label c.loop-part.labels c.args.parts.now)) (take_all c.loop-part.part-index c.args.parts.now end) c.loop-part.invariant.1
