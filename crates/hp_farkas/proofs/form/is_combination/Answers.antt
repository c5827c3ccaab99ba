use Rattle.std.proofs.Common.{arith, pos}
use Rattle.hp_lit.specs.declared.proof.Share.{Share}
use Rattle.hp_farkas.proofs.Rising.{from_zero, to_zero, loop_in, loop_out}
use Rattle.hp_farkas.proofs.form.is_combination.Goals as goal
use Rattle.hp_farkas.proofs.form.is_combination.Goals.{then-share-last-via-then-share-last, then-share-last-via-else-share-last+then-not-may_take}

abbrev no_share : Share
no_share = record { lit = 0; times = pos 0 }

pub loop-share-init : goal.loop-share-init
loop-share-init c = (from_zero c.args.path.now c.args.shares.now, to_zero c.args.path.now c.args.shares.now)

pub returns-then-share-last-clause-no : goal.returns-then-share-last-clause-no
returns-then-share-last-clause-no c = λ _ h.
    let f = loop_in c.args.path.now c.loop-share.last c.args.shares.now c.loop-share.share-index no_share c.loop-share-test.true (c.loop-share.invariant.0 h) in
    elim c.then-share-last.branch [
      | then-share-last-via-then-share-last w ↦ (let a = f.above in let b = w.if-share-last.true in absurd (omega arith))
      | then-share-last-via-else-share-last+then-not-may_take w ↦ w.may_take.ensures.no w.if-not-may_take.true f.first f.is_taken
    ]

pub loop-share-preserved : goal.loop-share-preserved
loop-share-preserved c = (
  λ h. (loop_in c.args.path.now c.loop-share.last c.args.shares.now c.loop-share.share-index _ c.loop-share-test.true (c.loop-share.invariant.0 h)).rest,
  λ h. c.loop-share.invariant.1 (loop_out c.args.path.now c.loop-share.last c.args.shares.now c.loop-share.share-index _ c.loop-share-test.true (let b = c.if-share-last.false in omega arith) (c.may_take.ensures.yes c.if-not-may_take.false) h),
)
