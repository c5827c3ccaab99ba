use Rattle.std.proofs.Common.{◌<◌, ◌++◌, ◌∷◌, [], ◌∙◌, ap, arith, length, subst}
use Rattle.hp_path.proofs.Chained.{gathered_begin, gathered_step}
use Rattle.hp_path.proofs.Gathering.{nums_end, places_end}
use Rattle.hp_path.proofs.components.component_of.Goals as goal

pub chain-init : goal.chain-init
chain-init c =
    let l = c.args.labelled.now in
    gathered_begin l.labels c.args.label c.args.parts.now.nums c.args.parts.now.num_places c.requires.places l.chains.firsts _ _ _ c.get-at.ensures (c.requires.labelled.chained.first c.args.label c.requires.label) c.new-nums.ensures c.new-places.ensures

pub chain-smaller : goal.chain-smaller
chain-smaller c =
    let l = c.args.labelled.now in
    let nums = c.args.parts.now.nums in
    let b : c.chain.at < length nums = subst (λ n. c.chain.at < n) c.len.ensures c.chain-test.true in
    (gathered_step l.labels c.args.label nums c.args.parts.now.num_places c.requires.places l.chains.nexts c.chain.at _ _ _ c.chain.nums _ c.chain.places _ b c.get.ensures c.get-in-chain.ensures
    (c.in_ok-push.ensures.ok ∙ ap (λ x. c.chain.nums ++ x ∷ []) c.in_ok-copy.ensures) c.in_ok-push-2.ensures.ok c.get-at-in-chain.ensures c.requires.labelled.chained.next c.chain.invariant).1

pub chain-preserved : goal.chain-preserved
chain-preserved c =
    let l = c.args.labelled.now in
    let nums = c.args.parts.now.nums in
    let b : c.chain.at < length nums = subst (λ n. c.chain.at < n) c.len.ensures c.chain-test.true in
    (gathered_step l.labels c.args.label nums c.args.parts.now.num_places c.requires.places l.chains.nexts c.chain.at _ _ _ c.chain.nums _ c.chain.places _ b c.get.ensures c.get-in-chain.ensures
    (c.in_ok-push.ensures.ok ∙ ap (λ x. c.chain.nums ++ x ∷ []) c.in_ok-copy.ensures) c.in_ok-push-2.ensures.ok c.get-at-in-chain.ensures c.requires.labelled.chained.next c.chain.invariant).0

pub returns-clause-nums : goal.returns-clause-nums
returns-clause-nums c =
    nums_end c.args.labelled.now.labels c.args.label c.args.parts.now.nums c.chain.nums c.chain.at (omega arith) c.chain.invariant.nums

pub returns-clause-places : goal.returns-clause-places
returns-clause-places c =
    places_end c.args.labelled.now.labels c.args.label c.args.parts.now.nums c.args.parts.now.num_places c.chain.places c.chain.at (omega arith) c.chain.invariant.places
