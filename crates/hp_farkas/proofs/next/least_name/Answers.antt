use Rattle.std.proofs.Common.{◌∙◌, pos, sym, ap}
use Rattle.hp_lit.specs.declared.proof.Share.{Share}
use Rattle.hp_farkas.specs.inner.Next.{least_part, least_name}
use Rattle.hp_farkas.proofs.Loops.{least_none, least_some}
use Rattle.hp_farkas.proofs.next.least_name.Goals as goal
use Rattle.hp_farkas.proofs.next.least_name.Goals.{in-Some, in_default}

abbrev no_share : Share
no_share = record { lit = 0; times = pos 0 }

pub loop-share-preserved : goal.loop-share-preserved
loop-share-preserved c = elim c.match-num_at.branch [
  | in-Some w ↦ (λ taken a.
      let r = c.loop-share.invariant taken a in
      let n = least_some c.args.path.now c.args.shares.now c.loop-share.share-index no_share c.loop-share-test.true r.0 r.1 c.args.from c.loop-share.best w.in-Some.lit.now w.in-Some.ensures.some in
      let p = ap (λ parts. least_part c.args.from c.loop-share.best parts) (sym w.as_slice.ensures) ∙ sym w.least_part-best.ensures ∙ sym w.best-is in
      (n.0, n.1, r.2 ∙ n.2 ∙ ap (λ best. least_name c.args.from best n.0) p))
  | in_default w ↦ (λ taken a.
      let r = c.loop-share.invariant taken a in
      absurd (least_none c.args.path.now c.args.shares.now c.loop-share.share-index no_share c.loop-share-test.true r.0 r.1 c.args.from c.loop-share.best w.in_default.ensures.none))
]
