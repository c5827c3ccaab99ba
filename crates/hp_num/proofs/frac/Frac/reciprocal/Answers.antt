use Rattle.std.proofs.Common.{pos, neg_ℤ, ◌≤ℤ◌, ◌<ℤ◌, arith, sym, ap, ◌∙◌, unsigned_abs, subst}
use Rattle.std.proofs.lemmas.Int.{ints, by_lt_z}
use Rattle.hp_math.specs.Rational.{ratio}
use Rattle.hp_math.proofs.Parts.{zero_from_num}
use Rattle.hp_num.proofs.Compare.{recip_neg, recip_pos}
use Rattle.hp_num.proofs.frac.Frac.reciprocal.Goals as goal

pub reduced-requires-else-num-lt0 : goal.reduced-requires-else-num-lt0
reduced-requires-else-num-lt0 c =
    let q = c.args.self in
    let s : pos 0 ≤ℤ q.num = (let a = c.num.ensures in let b = c.if-num-lt0.false in omega (arith, ints)) in
    let p : pos 0 <ℤ q.num = by_lt_z (pos 0) q.num (λ l. l) (λ l. absurd (c.requires (zero_from_num q (omega (arith, ints))))) in
    subst (λ n. pos 0 <ℤ n) (sym c.top-else-num-lt0.ensures) p

pub returns-then-num-lt0 : goal.returns-then-num-lt0
returns-then-num-lt0 c =
    let q = c.args.self in
    let s : q.num <ℤ pos 0 = (let a = c.num.ensures in let b = c.if-num-lt0.true in omega (arith, ints)) in
    c.reduced.ensures ∙ (λ i. ratio ((c.negated-top.ensures ∙ ap neg_ℤ c.below.ensures) i) (unsigned_abs ((c.negated-below.ensures ∙ ap neg_ℤ c.top.ensures) i))) ∙ recip_neg q s

pub returns-else-num-lt0 : goal.returns-else-num-lt0
returns-else-num-lt0 c =
    let q = c.args.self in
    let s : pos 0 ≤ℤ q.num = (let a = c.num.ensures in let b = c.if-num-lt0.false in omega (arith, ints)) in
    c.reduced-else-num-lt0.ensures ∙ (λ i. ratio (c.below-else-num-lt0.ensures i) (unsigned_abs (c.top-else-num-lt0.ensures i))) ∙ recip_pos q s
