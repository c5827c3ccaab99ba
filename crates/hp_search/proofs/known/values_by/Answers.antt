use Rattle.std.proofs.Common.{◌≤◌, arith, length}
use Rattle.hp_search.proofs.Valuing.{all_values, value_more}
use Rattle.hp_search.proofs.known.values_by.Goals as goal

pub loop-at-preserved : goal.loop-at-preserved
loop-at-preserved c = value_more c.args.sorts.now c.loop-at.at _ _ _ _ c.loop-at-test.true c.in_ok-push.ensures.ok c.value_of.ensures c.loop-at.invariant

pub returns : goal.returns
returns c =
    let end : length c.args.sorts.now ≤ c.loop-at.at = omega arith in
    all_values c.args.sorts.now c.loop-at.at _ end c.loop-at.invariant
