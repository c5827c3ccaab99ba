use Rattle.std.proofs.Common.{◌∙◌, sym}
use Rattle.hp_farkas.proofs.Loops.{strict_here, strict_later}
use Rattle.hp_farkas.proofs.check.has_strict.Goals as goal

pub returns-then-is_strict : goal.returns-then-is_strict
returns-then-is_strict c = λ taken a.
    let r = c.loop-share.invariant taken a in
    strict_here c.args.path.now c.args.shares.now c.loop-share.share-index _ c.loop-share-test.true r.0 r.1 (λ t k. sym c.if-is_strict.true ∙ c.is_strict.ensures t k) ∙ sym r.2

pub loop-share-preserved : goal.loop-share-preserved
loop-share-preserved c = λ taken a.
    let r = c.loop-share.invariant taken a in
    let n = strict_later c.args.path.now c.args.shares.now c.loop-share.share-index _ c.loop-share-test.true r.0 r.1 (λ t k. sym c.if-is_strict.false ∙ c.is_strict.ensures t k) in
    (n.0, n.1, r.2 ∙ n.2)
