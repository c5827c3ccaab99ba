use Rattle.std.proofs.Common.{◌≤◌, ◌∙◌, subst, arith, length}
use Rattle.hp_lit.specs.declared.literal.NumLit.{NumLit}
use Rattle.hp_path.specs.Components.{IsOneLabel}
use Rattle.hp_path.proofs.Merging.{are_labels, below_after, lit_joined}
use Rattle.hp_path.proofs.labels.labels_of.Goals as goal

pub loop-lit-preserved : goal.loop-lit-preserved
loop-lit-preserved c =
    let own = subst (λ (l : NumLit). IsOneLabel c.join.new.labels l.parts) c.lit-item.is (subst (IsOneLabel c.join.new.labels) c.as_slice.ensures c.join.ensures.one) in
    record {
      count = c.join.ensures.coarser.count ∙ c.loop-lit.invariant.count;
      one = lit_joined c.args.sorts.now c.args.nums.now c.loop-lit.labels c.join.new.labels c.loop-lit.lit-index c.lit-item.result c.requires c.loop-lit-test.true c.loop-lit.invariant.count c.loop-lit.invariant.one c.join.ensures.coarser own;
      below = below_after c.loop-lit.labels c.join.new.labels c.join.ensures.coarser c.loop-lit.invariant.below;
    }

pub returns : goal.returns
returns c =
    let end : length c.args.nums.now ≤ c.loop-lit.lit-index = omega arith in
    are_labels c.args.sorts.now c.args.nums.now c.loop-lit.labels c.loop-lit.lit-index c.requires end c.loop-lit.invariant.count c.loop-lit.invariant.one c.loop-lit.invariant.below
